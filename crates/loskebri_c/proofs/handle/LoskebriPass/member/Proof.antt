-- `member` lends the member at the handle's pointer, and the handle follows it.
use Rattle.std.proofs.Common.{◌≡◌, ℕ, MutBor, List, [], ◌∷◌, refl, sym}
use Rattle.std.specs.Prelude.{Option, IsSome, Some, None}
use seplogic.Ra.Ura.{Ura}
use base.Fraction.{full_share}
use base.Fml.{Fml, GName, flft, fsep, ftrue}
use base.Logic.{ent, sep, id⊢}
use mir.Raw.{raw as bare}
use mir.Syntax.{named}
use mir.Val.{Val, vptr}
use contract.Monad.{fact}
use contract.Running.{tables}
use types.Logic.{Logic, sem}
use types.Kit.{‵, raw, ◌⊛◌, some, later, at_ret, ◌$◌, ◌∵◌, !, qed, done, move, keep, use1, await, pick, split, split3, join, fsplit}
use types.Kit.{fsplit3, fjoin, fpack, rewrite, suffices, frame, group}
use types.Part.{whole, sub, look_in}
use types.Run.{stop, fld, load, of_opd, addr, first, blocks, exec, returns, enter}
use types.ByLocal.{alloc_all, pass_all, free_all, look_at, get, through, sets, sets_last, env}
use denote.Exit.{no}
use denote.Follow.{follows, Part, lends_Part}
use denote.Memory.{cell_at, lone, part_at, part_of, mem}
use denote.RawPtr.{Ptr, block_ptr, ptr_val}
use denote.Ref.{MutRef, mut_vals, mut_Tells}
use denote.Signature.{plain, mut_ref_to}
use denote.Steps.{nothing, opens, heard}
use denote.Triple.Walked.{Stays, walk_of, ends_at, says, stay_dropped, Goes-spent_ref}
use Rattle.std.proofs.raw_atomic.Walks.{proved}
use Rattle.std_alloc.proofs.BoxSteps.Form.{handle}
use Rattle.std_heap.specs.contracts.GlobalAllocator.TheImpl.{ghosts}
use Rattle.block_pool.specs.Passing.{Passed}
use Rattle.pool_member.specs.contracts.member.Member as Member
use Rattle.loskebri_c.specs.Kept.{boxed}
use Rattle.loskebri_c.specs.Lending.{with_member}
use Rattle.loskebri_c.proofs.AsBox.{E, Pass, both, pass_out, pass_in, kept_cases}
use Rattle.loskebri_c.specs.contracts.handle.LoskebriPass.member as f
use Rattle.loskebri_c.proofs.handle.LoskebriPass.member.Statement.{statement}
use Rattle.loskebri_c.proofs.handle.LoskebriPass.member.Code as code

abbrev stayed : Stays f.ended.signature.params f.ended.kept
stayed = (stay_dropped (mut_ref_to (0 ∷ []) tt (plain (λ _. Pass))) no, tt)

open_is_not_none : (m : Option Passed) → IsSome m → m ≡ None → ⊥
open_is_not_none m is none = cc

module _ {M : Type 1} {𝓤 : Ura M} (𝓛 : Logic 𝓤) (d : Pass.Denot) (b o b' o' : ℕ) (h : Val) where
  -- all of an open handle but the member
  abbrev Rest : Fml
  Rest = fsep (fsep (ghosts.dealloc_token d.alloc (bare (lone (Member.the_row).mir)) (block_ptr b' o')) (handle E d.alloc h))
      (cell_at full_share Pass.mir (both (ptr_val (block_ptr b' o')) h ∷ []) b o)

  -- with a member it is an open handle again
  back : d.at ≡ block_ptr b' o' → (w : Passed)
      → ent 𝓤 (sep 𝓤 (sem 𝓛 ((mem Member.the_row).own_at w b' o')) (sem 𝓛 Rest)) (sem 𝓛 ((mem Pass).own_at (with_member d w) b o))
  unfolding part_of
  back e w =
      qed 𝓛 (‵ (part_at Member.the_row full_share w b' o') ∷ ‵ Rest ∷ []) ∵ move ! (1 ∷ []) $ fsplit ! $ fsplit ! $
      move ! (3 ∷ 0 ∷ []) $ fjoin ! $ rewrite ! 0 (λ (p : Ptr). ‵ (boxed d.alloc p w)) (sym e) refl $
      rewrite ! 2 (λ (p : Ptr). ‵ (cell_at full_share Pass.mir (both (ptr_val p) h ∷ []) b o)) (sym e) refl $
      pass_in ! d.alloc d.at (Some w) h $ move ! (1 ∷ 0 ∷ []) $ fjoin ! $
      fpack ! (List Val) (λ vs. fsep (cell_at full_share Pass.mir vs b o) (Pass.own_val (with_member d w) vs)) (both (ptr_val d.at) h ∷ [])
      $ done !

pub member_spec : {M : Type 1} → statement M
member_spec 𝓤 𝓛 𝓜 𝓡 wired =
    let c = f.clauses 𝓛 𝓜.mem 𝓡.returns in let W = walk_of 𝓛 f.ended stayed c in let 𝓣 = tables 𝓤 𝓛.H 𝓜 𝓡 𝓡.env in
    proved 𝓛 f.ended stayed c 𝓜 𝓡 (Goes-spent_ref 𝓛 1 (0 ∷ []) tt (plain (λ _. Pass)), tt)
    f.Key.name code.function (code.unfolded 𝓤 𝓛.H 𝓜 𝓡 wired)
    (λ κs. (mut_vals, tt)) (λ κs. (mut_Tells (named 0) κs.0 Pass, tt)) (λ κs qs bounds a _ are.
    let b = a.0.ref_ptr.0 in let o = a.0.ref_ptr.1 in let d = a.0.now in let vs = mut_vals a.0 in let γ = a.0.ghost_name in
    let y : W.Ghost = ((κs, qs, bounds, a, (vs, tt)), tt) in
    qed 𝓛 (((‵ (flft κs.0 qs.0) ⊛ ‵ ftrue) ⊛ ‵ ((MutRef (named 0) κs.0 Pass).own_val a.0 vs) ⊛ ‵ ftrue) ∷ raw (fact 𝓤 (IsSome d.member))
    ∷ []) ∵
    move ! (1 ∷ []) $ heard ! _ (λ is_open. split ! $ split ! $ move ! (2 ∷ []) $ split ! $ keep ! (0 ∷ 2 ∷ []) $
    enter ! _ _ _ _ _ $ alloc_all ! (λ l. pass_all ! refl ((tt, tt), tt) $
    fsplit3 ! $ move ! (1 ∷ 2 ∷ 3 ∷ []) $ opens ! tt Pass {h = d} b o (λ us.
    move ! (1 ∷ []) $ pass_out ! d us (λ h one fits.
    rewrite ! 2 (λ (ws : List Val). ‵ (cell_at full_share Pass.mir ws b o)) one refl $
    kept_cases ! d.alloc d.at d.member (λ null none. absurd (open_is_not_none d.member is_open none)) (λ b' o' x is owned t.
    -- [the member with the right to free it; the handle; its cell; the open borrow, in three entries]
    rewrite ! 2 (λ (p : Ptr). ‵ (cell_at full_share Pass.mir (both (ptr_val p) h ∷ []) b o)) is refl $
    first ! $ blocks ! $
    sets ! (of_opd ! (load ! (through ! refl (fld ! refl (stop !))) (look_in ! 2 (sub ! 0 refl (whole !))))) refl (tt, tt) $
    sets_last ! (addr ! (through ! refl (stop !))) refl (tt, tt) $
    exec ! 𝓣.C 𝓣.Λ (env code.Mir.locals l) code.Mir.t-2 (at_ret _ (W.post y)) $
    sets ! (of_opd ! (get ! refl)) refl (tt, tt) $
    fsplit ! $ move ! (1 ∷ 2 ∷ []) $ fjoin ! $ move ! (0 ∷ 2 ∷ []) $ fjoin ! $ move ! (2 ∷ 3 ∷ 4 ∷ 1 ∷ 0 ∷ []) $ group ! 5 $
    let held = sem 𝓛 (Rest 𝓛 d b o b' o' h) in let again = back 𝓛 d b o b' o' h is in let known = (Pass.coded).code d in
    use1 𝓛 (later (some (λ (δ : GName). raw (Part 𝓛 Pass Member.the_row (with_member d) (named 0) κs.0 qs.0 b o b' o' γ held again x δ))))
    (lends_Part 𝓛 Pass Member.the_row (with_member d) (named 0) κs.0 qs.0 b o b' o' γ held again known known x) $ await ! tt $ pick ! (λ δ.
    returns ! (look_at ! 0 refl) $ free_all ! refl $ keep ! (0 ∷ []) $
    let lent : MutBor Passed = record { ref_ptr = (b', o'); ghost_name = δ; now = x } in
    use1 𝓛 (‵ ((MutRef (named 0) κs.0 Member.the_row).own_val lent (vptr b' o' ∷ [])) ⊛ ‵ (flft κs.0 qs.0)
    ⊛ ‵ (follows Pass Member.the_row γ δ (with_member d))) (id⊢ 𝓤 _) $ split3 ! $
    suffices ! _ (ends_at 𝓛 f.ended stayed c y (vptr b' o') lent (tt, tt) (tt, tt)) $
    nothing ! $ nothing ! $ join ! $ join ! $ nothing ! $ move ! (2 ∷ 0 ∷ []) $ join ! $ join ! $ frame ! $
    says ! (sym owned) $ done !)))))))
