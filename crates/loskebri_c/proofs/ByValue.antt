-- The walk of a function that takes one value, asks nothing of it, and makes another. Assumes `Logic`.
use mathlib.Core.Path.{◌≡◌, refl}
use mathlib.Core.List.{List, [], ◌∷◌, ◌++◌}
use seplogic.Ra.Ura.{Ura}
use mir.Syntax.{Fn, Callee}
use mir.Val.{Val}
use base.Logic.{emp}
use base.Fml.{ftrue, fsep}
use prog.Model.{Model}
use prog.Wp.{WpFn, Closed}
use contract.Monad.{fact}
use contract.Running.{Running, MachineTables, tables}
use types.Logic.{Logic}
use types.Kit.{Item, Goal, Step, Sq, prop, ‵, raw, ◌⊛◌, ◌$◌, ◌∵◌, !, qed, keep, drop, join, split, fsplit, fjoin, regoal, suffices, done}
use denote.Exit.{yes, Last, left}
use denote.RattleType.{RattleType}
use denote.Signature.{plain}
use denote.Steps.{nothing}
use denote.Triple.Clauses.{Ended, Clauses, closing}
use denote.Triple.Spec.{Meets}
use denote.Triple.Statement.{Contract}
use denote.Triple.Walked.{says, Stays, stay_dropped, walk_of, ends_at, Goes-dropped}
use Rattle.std.proofs.raw_atomic.Walks.{proved_at}

-- such a function: the types of the two values, and what its contract tells of the second by the first
pub record ByValue : Type 2 where
  pub taken : RattleType
  pub made : RattleType
  pub tells : taken.Denot → made.Denot → Type 0
  -- the value that is taken leaves nothing behind
  pub last : (x : taken.Denot) → Last (taken.exit yes) x
  pub silent : (x : taken.Denot) (w : Last (taken.exit yes) x) → left (taken.exit yes) x w ≡ ftrue

module _ (V : ByValue) where
  abbrev pub ended : Ended
  ended = record {
    signature = record { lifetimes = 0; outlives = []; params = plain (λ _. V.taken) ∷ []; result = plain (λ _. V.made) };
    kept = (yes, tt);
  }

  abbrev stayed : Stays ended.signature.params ended.kept
  stayed = (stay_dropped (plain (λ _. V.taken)) yes, tt)

  abbrev pub clauses : {M : Type 1} (𝓤 : Ura M) → Clauses 𝓤 ended
  clauses 𝓤 κs a = record { ghost = Unit {0}; requires = λ g. emp 𝓤; ensures = λ g x e. fact 𝓤 (V.tells a.0 x) }

  module _ {M : Type 1} {𝓤 : Ura M} (𝓛 : Logic 𝓤) where
    abbrev pub walk : Contract 𝓤
    walk = walk_of 𝓛 ended stayed (clauses 𝓤)

    -- it ends with the value that it made, and nothing else
    pub makes : (z : walk.Ghost) (w : Val) (x : V.made.Denot) → V.tells z.0.3.0 x
        → Sq 𝓛 (‵ (V.made.own_val x (w ∷ [])) ∷ []) (prop (walk.post z w))
    makes z w x told =
        suffices ! _ (ends_at 𝓛 ended stayed (clauses 𝓤) z w x (V.last z.0.3.0, tt) (tt, tt)) $ says ! told $
        nothing ! $ nothing ! $ fjoin ! $ join ! $ nothing ! $ join ! $ done !

    module _ (𝓜 : Model 𝓤 𝓛.H) (𝓡 : Running 𝓤 𝓛.H 𝓜) (function : Fn) where
      abbrev 𝓣 : MachineTables 𝓤 𝓛.H 𝓜
      𝓣 = tables 𝓤 𝓛.H 𝓜 𝓡 𝓡.env

      abbrev pub Runs : walk.Ghost → List Val → Goal 𝓤 𝓛.H
      Runs z vs = prop (WpFn 𝓤 𝓛.H 𝓣.C 𝓣.Λ function vs (walk.post z))

      -- it begins with the value that it takes, and nothing else
      pub takes : (k : Callee) → Closed 𝓤 𝓛.H 𝓣.C 𝓣.Λ k function
          → ((z : walk.Ghost) → Sq 𝓛 (‵ (V.taken.own_val z.0.3.0 z.0.4.0) ∷ []) (Runs z (z.0.4.0 ++ [])))
          → Meets 𝓛 ended.signature (𝓣.C k) (closing 𝓛 ended (clauses 𝓤))
      takes k closed walked =
          let silent = Goes-dropped 𝓛 0 (plain (λ _. V.taken)) yes (λ κs. V.silent) in
          proved_at 𝓛 ended stayed (clauses 𝓤) 𝓜 𝓡 (silent, tt) k function closed (λ z are.
          qed 𝓛 ((‵ ftrue ⊛ ‵ (fsep (V.taken.own_val z.0.3.0 z.0.4.0) ftrue)) ∷ raw (emp 𝓤) ∷ []) ∵
          split ! $ drop ! $ fsplit ! $ keep ! (0 ∷ []) $ walked z)

      -- the value is one machine value
      pub is_one : {K : Type 0} {Γ : List (Item 𝓤)} → K → (z : walk.Ghost) (w : Val) → z.0.4.0 ≡ w ∷ []
          → Step K 𝓛 Γ (Runs z (w ∷ [])) Γ (Runs z (z.0.4.0 ++ []))
      is_one t z w e = regoal t (λ (vs : List Val). Runs z (vs ++ [])) e refl
