-- A handle by value: its pointer, its allocator, and what it keeps. Assumes `Logic`.
use Rattle.std.proofs.Common.{◌≡◌, ℕ, List, [], ◌∷◌, ◌++◌, refl, subst}
use Rattle.std.specs.Prelude.{Option, Some, None}
use seplogic.Ra.Ura.{Ura}
use mir.Syntax.{impl, tnil, dnil}
use mir.Val.{Val, vstruct, vcons, vnil, of_list}
use base.Fraction.{full_share}
use base.Logic.{SProp, emp, ent, sep, guard, guard_i, via, never, fst∗, snd∗}
use contract.Fact.{fact_i}
use mir.Raw.{raw as bare}
use contract.Monad.{fact, fact_use}
use types.Logic.{Logic, sem}
use types.Kit.{Item, Goal, Seq, Step, step, prop, ‵, raw, given, ◌$◌, !, qed, done, frame, use0, use1, learn, move, drop, fsplit, fjoin}
use types.Kit.{fpick, fpack, feq_i, feq_l}
use denote.RattleType.{RattleType, Valss}
use denote.Builtin.{RawPtr}
use denote.Memory.{lone}
use denote.RawPtr.{Ptr, ptr_val, block_ptr, null_ptr, in_a_block, lies_at, Testable}
use denote.Steps.{nothing}
use denote.Struct.Struct.{within}
use denote.Struct.Owning.{shape}
use Rattle.std.proofs.alloc.Calls.{Fits, handle_tells}
use Rattle.std_alloc.proofs.BoxSteps.Form.{Bx, P, handle, owning}
use Rattle.std_heap.specs.contracts.Global as Heap
use Rattle.std_heap.specs.contracts.GlobalAllocator.TheImpl.{ghosts, dict}
use Rattle.std_heap.proofs.Global.TheLaws as heap
use Rattle.std_heap.proofs.GlobalToken.{dealloc_token-Testable}
use Rattle.block_pool.specs.Passing.{Passed}
use Rattle.pool_member.specs.contracts.member.Member as Member
use Rattle.pool_member.proofs.member.Member.TheLaws as member
use Rattle.box_parts.specs.contracts.BoxParts as BoxParts
use Rattle.loskebri_c.specs.Kept.{boxed, kept}
use Rattle.loskebri_c.specs.contracts.handle.LoskebriPass as LoskebriPass

-- the heap's account of boxes
abbrev pub E : Bx
E = record {
  row = Member.the_row;
  laws = member.the_row_laws;
  al = record { row = Heap.the_row; laws = heap.the_row_laws; g = ghosts; d = dict; drops = impl [] tnil dnil };
}

-- the type of a handle
abbrev pub Pass : RattleType
Pass = LoskebriPass.the_row

-- the type of a box's parts
abbrev pub Parts : RattleType
Parts = BoxParts.the_row Member.the_row Heap.the_row ghosts

-- two values, side by side
abbrev pub both : Val → Val → Val
both v w = vstruct (vcons v (vcons w vnil))

-- the start of a block of `Global` may be compared with null
pub tested : {M : Type 1} {𝓤 : Ura M} (𝓛 : Logic 𝓤) (a : (Heap.the_row).Denot) (p : Ptr) (x : Passed) → ent 𝓤 (sem 𝓛 (boxed a p x))
    (guard 𝓤 (Testable p) (sem 𝓛 (boxed a p x)))
tested {𝓤 = 𝓤} 𝓛 a p x = let τ = bare (lone (Member.the_row).mir) in
    fact_use 𝓤 (Testable p) (via 𝓤 _ (snd∗ 𝓤 (sem 𝓛 (lies_at Member.the_row full_share p x)) (sem 𝓛 (ghosts.dealloc_token a τ p)))
    (dealloc_token-Testable 𝓛 a τ p)) (guard_i 𝓤 (Testable p) (sem 𝓛 (boxed a p x)))

module _ {M : Type 1} {𝓤 : Ura M} {𝓛 : Logic 𝓤} {K : Type 0} {Γ : List (Item 𝓤)} {G : Goal 𝓤 𝓛.H} where
  -- a handle is its two words, and what it keeps
  pub pass_out : K → (d : Pass.Denot) (vs : List Val)
      → ((h : Val) → vs ≡ both (ptr_val d.at) h ∷ [] → Fits E.al h → Seq K 𝓛 (‵ (kept d.alloc d.at d.member) ∷ ‵ (handle E d.alloc h)
      ∷ Γ) G)
      → Seq K 𝓛 (‵ (Pass.own_val d vs) ∷ Γ) G
  pass_out t d vs k =
      fsplit t $ fpick t (λ vss. fsplit t $ feq_l t (λ ev. fsplit t $ feq_l t
      (λ ep. fsplit t $ handle_tells E.al t d.alloc vss.1.0 (λ h ea fits. move t (1 ∷ []) $ drop t $ move t (1 ∷ []) $
      k h (subst (λ (ws : List Val). vs ≡ vstruct (of_list (ptr_val d.at ∷ (ws ++ []))) ∷ []) ea
      (subst (λ (ps : List Val). vs ≡ vstruct (of_list (ps ++ (vss.1.0 ++ []))) ∷ []) ep ev)) fits))))

  pub pass_in : K → (a : (Heap.the_row).Denot) (p : Ptr) (m : Option Passed) (h : Val)
      → Step K 𝓛 (‵ (Pass.own_val (record { at = p; alloc = a; member = m }) (both (ptr_val p) h ∷ [])) ∷ Γ) G
      (‵ (kept a p m) ∷ ‵ (handle E a h) ∷ Γ) G
  pass_in t a p m h = step (λ s. let v : Val = both (ptr_val p) h in
      nothing t $ move t (2 ∷ 0 ∷ []) $ fjoin t $ feq_i t (List Val) (ptr_val p ∷ []) (ptr_val p ∷ []) refl $ fjoin t $
      feq_i t (List Val) (v ∷ []) (v ∷ []) refl $ fjoin t $
      fpack t (Valss (RawPtr ∷ P E ∷ [])) (within (shape (owning E)) (p, (a, tt)) (v ∷ [])) (ptr_val p ∷ [], (h ∷ [], tt)) $ fjoin t $ s)

  -- what is kept is nothing at null, or a member at a block
  pub kept_cases : K → (a : (Heap.the_row).Denot) (p : Ptr) (m : Option Passed)
      → (p ≡ null_ptr → m ≡ None → Seq K 𝓛 Γ G)
      → ((b o : ℕ) (x : Passed) → p ≡ block_ptr b o → m ≡ Some x → Testable (block_ptr b o) → Seq K 𝓛 (‵ (boxed a (block_ptr b o) x) ∷ Γ) G)
      → Seq K 𝓛 (‵ (kept a p m) ∷ Γ) G
  kept_cases t a p None none one = feq_l t (λ e. none e refl)
  kept_cases t a p (Some x) none one =
      in_a_block t p (λ q. boxed a q x) (fst∗ 𝓤 (never 𝓤) (sem 𝓛 (ghosts.dealloc_token a (bare (lone (Member.the_row).mir)) null_ptr)))
      (λ b o e.
      use1 𝓛 (given (Testable (block_ptr b o)) (‵ (boxed a (block_ptr b o) x))) (tested 𝓛 a (block_ptr b o) x) $
      learn t (λ ok. one b o x e refl ok))

module _ {M : Type 1} {𝓤 : Ura M} {𝓛 : Logic 𝓤} {K : Type 0} {Γ : List (Item 𝓤)} where
  -- two clauses beside each other
  pub says_both : K → {φ ψ : Type 0} {P : SProp 𝓤} → φ → ψ → Step K 𝓛 Γ (prop P) Γ (prop (sep 𝓤 P (sep 𝓤 (fact 𝓤 φ) (fact 𝓤 ψ))))
  says_both t {φ} {ψ} {P} x y = step (λ s. record {
    prf = via 𝓤 P s.prf (qed 𝓛 (raw P ∷ []) {P = sep 𝓤 P (sep 𝓤 (fact 𝓤 φ) (fact 𝓤 ψ))} (
        frame ! $ use0 𝓛 (raw (fact 𝓤 ψ)) (fact_i 𝓤 ψ (emp 𝓤) y) $ use0 𝓛 (raw (fact 𝓤 φ)) (fact_i 𝓤 φ (emp 𝓤) x) $ done !));
  })
