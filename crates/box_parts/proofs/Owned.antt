-- A box, its parts, and the pair that a box is taken apart into, each by value: they own the same, and have the same two words.
-- Assumes `Logic`.
use Rattle.std.proofs.Common.{◌≡◌, ℕ, List, [], ◌∷◌, ◌++◌, refl, ap, ◌∙◌}
use seplogic.Ra.Ura.{Ura}
use mir.Raw.{raw as bare}
use mir.Val.{Val, vstruct, of_list}
use base.Logic.{id⊢, never, fst∗}
use types.Logic.{Logic, sem}
use types.Kit.{Item, Goal, Seq, Step, step, ‵, ◌$◌, use1, move, drop, fsplit, fjoin, fpick, feq_l, rewrite}
use denote.Builtin.{RawPtr}
use denote.RattleType.{RattleType}
use denote.RawPtr.{Ptr, block_ptr, null_ptr, ptr_val, in_a_block}
use denote.Steps.{only}
use denote.Struct.Tuple.{Tuple}
use Rattle.core.proofs.alloc.Calls.{Fits, token, handle_tells}
use Rattle.std_alloc.specs.Box.Ownership.{box_owns}
use Rattle.std_alloc.proofs.BoxSteps.Form.{Bx, X, D, τ, R, P, B, handle, word}
use Rattle.std_alloc.proofs.BoxSteps.Steps.{box_out, box_in}
use Rattle.box_parts.specs.contracts.BoxParts as parts

module _ (E : Bx) where
  -- the type of a box's parts, as proofs see it
  abbrev pub Parts : RattleType
  Parts = parts.the_row (R E) (P E) E.al.g

  -- the type of a raw pointer beside an allocator
  abbrev pub Pair : RattleType
  Pair = Tuple (RawPtr ∷ P E ∷ [])

  -- the box that these parts are of
  abbrev pub boxed : Parts.Denot → D E
  boxed d = record { ptr = d.at; alloc = d.alloc; value = d.value }

  -- the parts of a value in a block
  abbrev pub parted : ℕ → ℕ → E.al.row.Denot → X E → Parts.Denot
  parted b o a x = record { at = block_ptr b o; alloc = a; value = x }

module _ (E : Bx) {M : Type 1} {𝓤 : Ura M} {𝓛 : Logic 𝓤} {K : Type 0} {Γ : List (Item 𝓤)} {G : Goal 𝓤 𝓛.H} where
  -- parts own a value in a block and have two words
  pub parts_out : K → (d : (Parts E).Denot) (vs : List Val)
      → ((b o : ℕ) (h : Val) → d.at ≡ block_ptr b o → vs ≡ word E h b o ∷ [] → Fits E.al h
      → Seq K 𝓛 (‵ (box_owns (token E.al d.alloc) (R E) (block_ptr b o) d.value) ∷ ‵ (handle E d.alloc h) ∷ Γ) G)
      → Seq K 𝓛 (‵ ((Parts E).own_val d vs) ∷ Γ) G
  parts_out t d vs more =
      use1 𝓛 (‵ ((B E).own_val (boxed E d) vs)) (id⊢ 𝓤 _) $
      box_out E t (boxed E d) vs (λ b o h at words fits. fjoin t $ more b o h at words fits)

  -- and the value in that block, with the handle of its allocator, is owned by parts again
  pub parts_in : K → (b o : ℕ) (h : Val) (a : E.al.row.Denot) (x : X E)
      → Step K 𝓛 (‵ ((Parts E).own_val (parted E b o a x) (word E h b o ∷ [])) ∷ Γ) G
      (‵ (box_owns (token E.al a) (R E) (block_ptr b o) x) ∷ ‵ (handle E a h) ∷ Γ) G
  parts_in t b o h a x = step (λ more. fsplit t $ box_in E t (boxed E (parted E b o a x)) b o x refl refl $
      use1 𝓛 (‵ ((Parts E).own_val (parted E b o a x) (word E h b o ∷ []))) (id⊢ 𝓤 _) $ more)

  -- so do a pointer that owns a value and its allocator
  pub pair_out : K → (r : (Pair E).Denot) (u : Val) (a : E.al.row.Denot) (x : X E) → r.1 ≡ a
      → ((b o : ℕ) (h : Val) → u ≡ word E h b o → Fits E.al h
      → Seq K 𝓛 (‵ (box_owns (token E.al a) (R E) (block_ptr b o) x) ∷ ‵ (handle E a h) ∷ Γ) G)
      → Seq K 𝓛 (‵ (box_owns (token E.al a) (R E) r.0 x) ∷ ‵ ((Pair E).own_val r (u ∷ [])) ∷ Γ) G
  pair_out t r u a x same more =
      in_a_block t r.0 (λ (p : Ptr). box_owns (token E.al a) (R E) p x) (fst∗ 𝓤 (never 𝓤) (sem 𝓛 (token E.al a (bare (τ E)) null_ptr)))
      (λ b o at.
      move t (1 ∷ []) $ fpick t (λ words. fsplit t $ feq_l t (λ whole. fsplit t $ feq_l t (λ first. fsplit t $
      rewrite t 0 (λ (s : E.al.row.Denot). ‵ (E.al.row.own_val s words.1.0)) same refl $
      handle_tells E.al t a words.1.0 (λ h second fits. move t (1 ∷ []) $ drop t $ move t (1 ∷ 0 ∷ []) $
      more b o h (ap only (whole ∙ (λ i. vstruct (of_list ((first ∙ ap (λ (p : Ptr). ptr_val p ∷ []) at) i ++ (second i ++ []))) ∷ [])))
      fits)))))
