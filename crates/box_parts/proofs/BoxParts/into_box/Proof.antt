-- the walk of `into_box`: what the parts own is what `from_raw` asks for, and it gives the box
use Rattle.std.proofs.Common.{◌≡◌, List, [], ◌∷◌, ◌++◌, refl, sym, ap, subst}
use lib.Dec.{T}
use mir.Syntax.{Body, place, copy, assign, rv_opd, seq, return}
use mir.MapTy.{inst_fn}
use mir.Val.{Val, vptr, has_ty, WT}
use base.Logic.{SProp, ent, id⊢}
use base.Fml.{ftrue, fsep, flft}
use prog.Wp.{WpFn}
use types.Kit.{at_ret, ‵, raw, ◌⊛◌, some, later, ◌$◌, ◌∵◌, !, qed, move, drop, use1, split}
use types.Kit.{split3, join, fsplit, fjoin, feq_i, pick, rewrite, suffices, await, done}
use types.Part.{sub, whole}
use types.Run.{stop, fld, of_opd, no_more, and_then, returns, enter, first, blocks, exec}
use types.ByLocal.{alloc_all, pass_all, free_all, look_at, get, get_in, sets, lands_last, env}
use contract.Monad.{fact}
use contract.BorrowLft.{◌⊑◌}
use contract.Running.{tables}
use denote.Exit.{no}
use denote.RattleType.{owns}
use denote.RawPtr.{block_ptr}
use denote.Signature.{types_at, plain}
use denote.Steps.{nothing, heard, only}
use denote.Triple.Call.{calls_at_last}
use denote.Triple.Spec.{triple_of}
use denote.Triple.Walked.{says, Stays, stay_dropped, walk_of, ends_at}
use Rattle.core.proofs.alloc.Calls.{Goes-blank}
use Rattle.core.proofs.atomic.Steps.{fm}
use Rattle.std.proofs.raw_atomic.Walks.{proved_at}
use Rattle.std_alloc.proofs.BoxSteps.Form.{Bx, D, B, args, box_ty, word, box_typed}
use Rattle.std_alloc.proofs.BoxSteps.Steps.{box_out, box_in}
use Rattle.std_alloc.specs.contracts.boxed.Box.from_raw as callee
use Rattle.std_alloc.proofs.boxed.Box.from_raw.Met.{met}
use Rattle.box_parts.proofs.Owned.{Parts, parts_out}
use Rattle.box_parts.specs.contracts.BoxParts.into_box as spec
use Rattle.box_parts.specs.contracts.BoxParts.into_box.Key.{name}
use Rattle.box_parts.proofs.BoxParts.into_box.Statement.{statement}
use Rattle.box_parts.proofs.BoxParts.into_box.Code as code

-- what is run after the block that calls `from_raw`
abbrev rest : Body
rest = seq (assign (place 0 []) (rv_opd (copy (place 4 [])))) return

pub into_box_spec : {M : Type 1} → statement M
into_box_spec 𝓤 𝓛 𝓜 𝓡 wired T' A LT LA g d drop_a allocator glue_a =
    let E : Bx = record { row = T'; laws = LT; al = record { row = A; laws = LA; g = g; d = d; drops = drop_a } } in
    let 𝓣 = tables 𝓤 𝓛.H 𝓜 𝓡 𝓡.env in
    let body = inst_fn (args E) code.function in
    let ended = spec.ended T' A g d drop_a in
    let clauses = spec.clauses T' A g d drop_a 𝓛 𝓜.mem 𝓡.returns in
    let stays : Stays ended.signature.params ended.kept = (stay_dropped (plain (λ _. Parts E)) no, tt) in
    let shuts = triple_of 𝓛 (callee.signature T' A g d drop_a) (callee.spec T' A g d drop_a 𝓛 𝓜.mem 𝓡.returns) in
    let shuts_met = met 𝓤 𝓛 𝓜 𝓡 (code.calls-std_alloc::boxed::Box::from_raw 𝓡.env wired) T' A LT LA g d drop_a allocator glue_a in
    proved_at 𝓛 ended stays clauses 𝓜 𝓡 (Goes-blank 𝓛 2 (plain (λ _. Parts E)) no (λ κs x f. tt), tt) (name (args E)) body
    (code.unfolded 𝓤 𝓛.H 𝓜 𝓡 wired (T', (A, tt)) d drop_a) (λ z are.
    let κs = z.0.0 in let qs = z.0.1 in let parts = z.0.3.0 in
    let Post : Val → SProp 𝓤 = (walk_of 𝓛 ended stays clauses).post z in
    let Runs : List Val → SProp 𝓤 = λ vs. WpFn 𝓤 𝓛.H 𝓣.C 𝓣.Λ body vs Post in
    let tokens = ‵ (flft κs.0 qs.0) ⊛ ‵ (flft κs.1.0 qs.1.0) ⊛ ‵ ftrue in
    let value_lives = raw (fact 𝓤 (κs.0 ⊑ T'.lives)) in let alloc_lives = raw (fact 𝓤 (κs.1.0 ⊑ A.lives)) in
    qed 𝓛 ((tokens ⊛ ‵ (owns (types_at ended.signature.params κs) z.0.3 z.0.4)) ∷ (value_lives ⊛ alloc_lives ⊛ ‵ ftrue) ∷ []) ∵
    split ! $ move ! (1 ∷ []) $ fsplit ! $
    parts_out E ! parts z.0.4.0 (λ b o h at words fits.
    -- [the value in its block; the allocator; no further parameter; the tokens; what is asked]
    let y : shuts.Ghost = ((κs, qs, tt, (parts.alloc, (block_ptr b o, tt)), (h ∷ [], (vptr b o ∷ [], tt))), parts.value) in
    suffices ! (Runs (word E h b o ∷ [])) (subst (λ (vs : List Val). ent 𝓤 (Runs (word E h b o ∷ [])) (Runs (vs ++ []))) (sym words)
    (id⊢ 𝓤 _)) $
    enter ! 𝓣.C 𝓣.Λ body (word E h b o ∷ []) Post $ alloc_all ! (λ locals. pass_all ! refl (box_typed E h b o fits, tt) $
    sets ! (of_opd ! (get_in ! (fld ! refl (stop !)) (sub ! 0 refl (whole !)))) refl (tt, tt) $
    sets ! (of_opd ! (get_in ! (fld ! refl (stop !)) (sub ! 1 refl (whole !)))) refl fits $
    first ! $ blocks ! $ sets ! (of_opd ! (get ! refl)) refl fits $
    move ! (4 ∷ []) $ split3 ! $ move ! (2 ∷ []) $ drop ! $ move ! (1 ∷ 2 ∷ []) $ join ! $ move ! (1 ∷ 0 ∷ []) $ join ! $
    -- [what `from_raw` asks, with the value; the allocator; no further parameter; the tokens]
    move ! (2 ∷ []) $ feq_i ! (List Val) (vptr b o ∷ []) (vptr b o ∷ []) refl $ fjoin ! $ move ! (2 ∷ 0 ∷ []) $ fjoin ! $
    move ! (2 ∷ 0 ∷ []) $ join ! $ join ! $ use1 𝓛 (raw (shuts.pre y)) (id⊢ 𝓤 _) $
    calls_at_last ! (fm 𝓛 𝓜 𝓡) shuts shuts_met y (and_then ! (get ! refl) (and_then ! (get ! refl) (no_more !))) (λ u.
    use1 𝓛 (later (some (λ (r : D E). (tokens ⊛ ‵ ((B E).own_val r (u ∷ []))) ⊛ some (λ (_ : Unit {0} × (Unit {0} × Unit {0})).
    ‵ (fsep ftrue (fsep ftrue ftrue)) ⊛ (raw (fact 𝓤 (r.value ≡ parts.value)) ⊛ raw (fact 𝓤 (r.alloc ≡ parts.alloc))))))) (id⊢ 𝓤 _) $
    await ! tt $ pick ! (λ r. split ! $ split ! $ move ! (2 ∷ []) $ pick ! (λ _. split3 ! $ drop ! $
    heard ! (r.value ≡ parts.value) (λ same. drop ! $ move ! (1 ∷ []) $
    -- [the box; the tokens]
    box_out E ! r (u ∷ []) (λ b' o' h' at' words' fits'. box_in E ! r b' o' r.value at' refl $
    rewrite ! 0 (λ (vs : List Val). ‵ ((B E).own_val r vs)) (sym words') refl $
    let typed : T (has_ty (box_ty E) u) × WT u =
    subst (λ (v : Val). T (has_ty (box_ty E) v) × WT v) (sym (ap only words')) (box_typed E h' b' o' fits') in
    lands_last ! refl typed $ exec ! 𝓣.C 𝓣.Λ (env body.locals locals) rest (at_ret (env body.locals locals) Post) $
    sets ! (of_opd ! (get ! refl)) refl typed $ returns ! (look_at ! 0 refl) $ free_all ! refl $
    suffices ! _ (ends_at 𝓛 ended stays clauses z u r ((tt, (tt, tt)), tt) (tt, tt)) $ says ! same $
    nothing ! $ nothing ! $ fjoin ! $ join ! $ move ! (1 ∷ 0 ∷ []) $ join ! $ done !))))))))
