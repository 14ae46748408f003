-- Every walk over operations makes a well formed script: slots in order, each left once at most and after it was placed.
use Rattle.std.proofs.Common.{◌≡◌, ◌≢◌, ℕ, ◌+◌, ◌<◌, Bool, true, false, cond, eqb, nat_lt, List, [], ◌∷◌, ◌++◌, length, get_or, take, drop}
use Rattle.std.proofs.Common.{zero, suc, Option, Some, None, is_some, fold, refl, sym, ap, ◌∙◌, subst, ⊎_elim, inl, inr, ◌⊎◌, arith}
use Rattle.std.proofs.Common.{length-append, append-nil, map-id, ◌==◌}
use Rattle.std.specs.List.{slice_get, Contains, range_with_len}
use Rattle.std.specs.Map.{lookup}
use Rattle.std.proofs.lemmas.Bool.{false≢true}
use Rattle.std.proofs.lemmas.Option.{same_Some, none-some, slice_get-get_or}
use Rattle.std.proofs.lemmas.List.{take-append-le, take-append-drop}
use Rattle.std.proofs.Math.Seq.{take-append_seam}
use Rattle.std.proofs.lemmas.List.Elements.{Contains-append_left, Contains-append_right, Contains-push, Contains-push_cases}
use Rattle.std.proofs.lemmas.List.FromFn.{get_or-range_with_len, length-range_with_len, map-range_with_len_more}
use Rattle.std.proofs.lemmas.Bool.{eqb-true, eq-eqb}
use Rattle.pool_model.proofs.Places.{slice_get-push_cases}
use Rattle.mtrace_reader.proofs.LivePairs.{lookup-live_but}
use Rattle.mtrace_reader.specs.declared.trace.Operation.{Operation}
use Rattle.mtrace_reader.specs.declared.trace.Operation.TheVariants.{New, Release, Failed}
use Rattle.mtrace_reader.specs.declared.steps.Step.{Step}
use Rattle.mtrace_reader.specs.declared.steps.Step.TheVariants.{Place, Leave}
use Rattle.mtrace_reader.specs.declared.walk.Live.{Live}
use Rattle.mtrace_reader.specs.declared.walk.Live.TheVariants.{Slot, Big}
use Rattle.mtrace_reader.specs.Script.{Walk, named, live_but, without, after, after_release, with_failed, with_twice, with_big, with_place}
use Rattle.mtrace_reader.specs.Script.{begun, placed_slots, LeavesPlaced, IsWellFormed}

-- ---- the slots that steps place

-- the slots that two lists of steps place are those of the one and then of the other
pub placed_slots-append : (xs ys : List Step) → placed_slots (xs ++ ys) ≡ placed_slots xs ++ placed_slots ys
placed_slots-append [] ys = refl
placed_slots-append (Place slot ∷ xs) ys = ap (λ slots. slot ∷ slots) (placed_slots-append xs ys)
placed_slots-append (Leave slot ∷ xs) ys = placed_slots-append xs ys

-- one more number from 0
pub range_with_len_more : (n : ℕ) → range_with_len 0 (n + 1) ≡ range_with_len 0 n ++ n ∷ []
range_with_len_more n = sym (map-id (range_with_len 0 (n + 1))) ∙ map-range_with_len_more (λ k. k) 0 n n (omega arith)
    ∙ ap (λ slots. slots ++ n ∷ []) (map-id (range_with_len 0 n))

-- a slot that a step places is among the placed slots
pub placed_slots-at : (steps : List Step) (place slot : ℕ) → slice_get steps place ≡ Some (Place slot) → Contains (placed_slots steps) slot
placed_slots-at [] place slot e = absurd cc
placed_slots-at (Place first ∷ steps) zero slot e = (0, omega arith, cc)
placed_slots-at (Leave first ∷ steps) zero slot e = absurd cc
placed_slots-at (Place first ∷ steps) (suc place) slot e =
    Contains-append_right (first ∷ []) (placed_slots steps) slot (placed_slots-at steps place slot e)
placed_slots-at (Leave first ∷ steps) (suc place) slot e = placed_slots-at steps place slot e

-- a slot that was placed is below their number
pub placed_below : (steps : List Step) (news slot : ℕ) → placed_slots steps ≡ range_with_len 0 news → Contains steps (Place slot)
    → slot < news
placed_below steps news slot in_order placed =
    let at = placed_slots-at steps placed.0 slot (slice_get-get_or steps placed.0 (Place slot) placed.1 ∙ ap Some placed.2) in
    let below : at.0 < news = omega (arith, at.1, ap length in_order, length-range_with_len 0 news) in
    omega (arith, at.2, ap (λ slots. get_or slots at.0 slot) in_order, get_or-range_with_len 0 news at.0 slot below)

-- ---- leaves

-- leaves stay in order by one step more, which leaves at most a slot that was placed and not left before
pub LeavesPlaced-push : (steps : List Step) (step : Step) → LeavesPlaced steps
    → ((slot : ℕ) → step ≡ Leave slot → Contains steps (Place slot) × ¬ Contains steps (Leave slot))
    → LeavesPlaced (steps ++ step ∷ [])
LeavesPlaced-push steps step before last place slot at =
    ⊎_elim
    (λ (p : (place < length steps) × (slice_get steps place ≡ Some (Leave slot))).
    rw (take-append-le place steps (step ∷ []) (omega arith)) (before place slot p.1))
    (λ (p : (place ≡ length steps) × (step ≡ Leave slot)).
    rw (p.0, take-append_seam steps (step ∷ [])) (last slot p.1))
    (slice_get-push_cases steps step (Leave slot) place at)

-- a slot that was left was placed
pub left_was_placed : (steps : List Step) (slot : ℕ) → LeavesPlaced steps → Contains steps (Leave slot) → Contains steps (Place slot)
left_was_placed steps slot leaves left =
    let placed = leaves left.0 slot (slice_get-get_or steps left.0 (Leave slot) left.1 ∙ ap Some left.2) in
    let whole : take left.0 steps ++ drop left.0 steps ≡ steps = take-append-drop left.0 steps in
    subst (λ (all : List Step). Contains all (Place slot)) whole
    (Contains-append_left (take left.0 steps) (drop left.0 steps) (Place slot) placed.0)

-- ---- what every walk keeps

-- its slots are placed in order and left after that; a live address names a placed and not left slot, and no two name the same
pub record Sound (walk : Walk) : Type 0 where
  pub in_order : placed_slots walk.script.steps ≡ range_with_len 0 walk.script.news
  pub leaves : LeavesPlaced walk.script.steps
  pub live : (address slot : ℕ) → named walk address ≡ Some (Slot slot)
      → Contains walk.script.steps (Place slot) × ¬ Contains walk.script.steps (Leave slot)
  pub one_name : (a b slot : ℕ) → named walk a ≡ Some (Slot slot) → named walk b ≡ Some (Slot slot) → a ≡ b

-- before the first operation a walk is so
pub Sound-begun : (cut : Bool) → Sound (begun cut)
Sound-begun cut = record {
  in_order = refl;
  leaves = λ place slot at. absurd cc;
  live = λ address slot names. absurd cc;
  one_name = λ a b slot names_a names_b. absurd cc;
}

-- a step that changes neither the pairs, the steps nor the number of slots
pub Sound-same : (walk next : Walk) → next.live ≡ walk.live → next.script.steps ≡ walk.script.steps → next.script.news ≡ walk.script.news
    → Sound walk → Sound next
Sound-same walk next live steps news sound = record {
  in_order = rw (steps, news) sound.in_order;
  leaves = rw steps sound.leaves;
  live = λ address slot. rw (live, steps) (sound.live address slot);
  one_name = λ a b slot. rw live (sound.one_name a b slot);
}

-- ---- what an address names after a step

cond_cases : {X : Type 0} (b : Bool) (x y z : X) → cond b x y ≡ z → ((b ≡ true) × (x ≡ z)) ⊎ ((b ≡ false) × (y ≡ z))
cond_cases true x y z e = inl (refl, e)
cond_cases false x y z e = inr (refl, e)

named_more : (live : List (ℕ × Live)) (address q slot : ℕ) (new : Live) → lookup (eqb q) ((address, new) ∷ live) ≡ Some (Slot slot)
    → ((q ≡ address) × (new ≡ Slot slot)) ⊎ (lookup (eqb q) live ≡ Some (Slot slot))
named_more live address q slot new e =
    ⊎_elim
    (λ (p : (eqb q address ≡ true) × (Some new ≡ Some (Slot slot))). inl (eqb-true q address p.0, same_Some new (Slot slot) p.1))
    (λ (p : (eqb q address ≡ false) × (lookup (eqb q) live ≡ Some (Slot slot))). inr p.1)
    (cond_cases (eqb q address) (Some new) (lookup (eqb q) live) (Some (Slot slot)) e)

named_less : (walk : Walk) (address q slot : ℕ) → lookup (eqb q) (live_but walk address) ≡ Some (Slot slot)
    → (q ≢ address) × (named walk q ≡ Some (Slot slot))
named_less walk address q slot e =
    ⊎_elim
    (λ (p : (eqb address q ≡ true) × (None ≡ Some (Slot slot))). absurd (none-some (Slot slot) p.1))
    (λ (p : (eqb address q ≡ false) × (named walk q ≡ Some (Slot slot))).
    (λ same. false≢true (sym p.0 ∙ eq-eqb address q (sym same)), p.1))
    (cond_cases (eqb address q) None (named walk q) (Some (Slot slot)) (sym (lookup-live_but walk address q) ∙ e))

-- ---- each step keeps them

-- an allocation too large for a block leaves a walk so
pub Sound-with_big : (walk : Walk) (address : ℕ) → Sound walk → Sound (with_big walk address)
Sound-with_big walk address sound =
    let earlier : (q slot : ℕ) → named (with_big walk address) q ≡ Some (Slot slot) → named walk q ≡ Some (Slot slot) =
    λ q slot e. ⊎_elim (λ (p : (q ≡ address) × (Big ≡ Slot slot)). absurd (cc p.1)) (λ old. old)
    (named_more walk.live address q slot Big e) in
    record {
      in_order = sound.in_order;
      leaves = sound.leaves;
      live = λ q slot e. sound.live q slot (earlier q slot e);
      one_name = λ a b slot names_a names_b. sound.one_name a b slot (earlier a slot names_a) (earlier b slot names_b);
    }

-- no step names the next slot
next_not_placed : (walk : Walk) → Sound walk → ¬ Contains walk.script.steps (Place walk.script.news)
next_not_placed walk sound placed =
    absurd (omega (arith, placed_below walk.script.steps walk.script.news walk.script.news sound.in_order placed))

not_left_more : (steps : List Step) (step : Step) (slot : ℕ) → ¬ Contains steps (Leave slot) → ¬ (step ≡ Leave slot)
    → ¬ Contains (steps ++ step ∷ []) (Leave slot)
not_left_more steps step slot before last left = ⊎_elim before last (Contains-push_cases steps step (Leave slot) left)

-- a placed slot leaves a walk so, its address naming that slot alone
pub Sound-with_place : (walk : Walk) (address : ℕ) → Sound walk → Sound (with_place walk address)
Sound-with_place walk address sound =
    let steps = walk.script.steps in
    let news = walk.script.news in
    let fresh = next_not_placed walk sound in
    let not_fresh : (slot q : ℕ) → named walk q ≡ Some (Slot slot) → news ≡ slot → ⊥ =
    λ slot q e same. fresh (rw same (sound.live q slot e).0) in
    let not_left : ¬ Contains steps (Leave news) = λ left. fresh (left_was_placed steps news sound.leaves left) in
    record {
      in_order = placed_slots-append steps (Place news ∷ []) ∙ ap (λ slots. slots ++ news ∷ []) sound.in_order
          ∙ sym (range_with_len_more news);
      leaves = LeavesPlaced-push steps (Place news) sound.leaves (λ slot e. absurd cc);
      live = λ q slot e. ⊎_elim
          (λ (p : (q ≡ address) × (Slot news ≡ Slot slot)).
          let same : news ≡ slot = cc p.1 in
          subst (λ (n : ℕ). Contains (steps ++ Place news ∷ []) (Place n) × ¬ Contains (steps ++ Place news ∷ []) (Leave n)) same
          (Contains-push steps (Place news), not_left_more steps (Place news) news not_left (λ e. absurd cc)))
          (λ (old : named walk q ≡ Some (Slot slot)).
          let kept = sound.live q slot old in
          (Contains-append_left steps (Place news ∷ []) (Place slot) kept.0, not_left_more steps (Place news) slot kept.1 (λ e. absurd cc)))
          (named_more walk.live address q slot (Slot news) e);
      one_name = λ a b slot names_a names_b. ⊎_elim
          (λ (p : (a ≡ address) × (Slot news ≡ Slot slot)). ⊎_elim
          (λ (q : (b ≡ address) × (Slot news ≡ Slot slot)). p.0 ∙ sym q.0)
          (λ (old : named walk b ≡ Some (Slot slot)). absurd (not_fresh slot b old (cc p.1)))
          (named_more walk.live address b slot (Slot news) names_b))
          (λ (old : named walk a ≡ Some (Slot slot)). ⊎_elim
          (λ (q : (b ≡ address) × (Slot news ≡ Slot slot)). absurd (not_fresh slot a old (cc q.1)))
          (sound.one_name a b slot old)
          (named_more walk.live address b slot (Slot news) names_b))
          (named_more walk.live address a slot (Slot news) names_a);
    }

-- without the pair of an address the rest keeps its names, and those are of other slots
pub Sound-without : (walk : Walk) (address : ℕ) (names : Option Live) → named walk address ≡ names → Sound walk
    → Sound (without walk address names)
Sound-without walk address None is sound = Sound-same walk (without walk address None) refl refl refl sound
Sound-without walk address (Some Big) is sound = record {
  in_order = sound.in_order;
  leaves = sound.leaves;
  live = λ q slot e. sound.live q slot (named_less walk address q slot e).1;
  one_name = λ a b slot names_a names_b.
      sound.one_name a b slot (named_less walk address a slot names_a).1 (named_less walk address b slot names_b).1;
}
Sound-without walk address (Some (Slot left)) is sound =
    let steps = walk.script.steps in
    record {
      in_order = placed_slots-append steps (Leave left ∷ []) ∙ append-nil (placed_slots steps) ∙ sound.in_order;
      leaves = LeavesPlaced-push steps (Leave left) sound.leaves
          (λ slot e. let same : left ≡ slot = cc e in
          subst (λ (n : ℕ). Contains steps (Place n) × ¬ Contains steps (Leave n)) same (sound.live address left is));
      live = λ q slot e.
          let old = named_less walk address q slot e in
          let kept = sound.live q slot old.1 in (
            Contains-append_left steps (Leave left ∷ []) (Place slot) kept.0,
            not_left_more steps (Leave left) slot kept.1
                (λ same. old.0 (sound.one_name q address slot old.1 (is ∙ ap (λ n. Some (Slot n)) (cc same)))),
          );
      one_name = λ a b slot names_a names_b.
          sound.one_name a b slot (named_less walk address a slot names_a).1 (named_less walk address b slot names_b).1;
    }

-- a release leaves a walk so, whatever it names
pub Sound-after_release : (walk : Walk) (address : ℕ) → Sound walk → Sound (after_release walk address)
Sound-after_release walk address sound = Sound-without walk address (named walk address) refl sound

either : (b : Bool) (x y : Walk) → Sound x → Sound y → Sound (cond b x y)
either true x y p q = p
either false x y p q = q

-- any operation leaves a walk so
pub Sound-after : (size : ℕ) (walk : Walk) (operation : Operation) → Sound walk → Sound (after size walk operation)
Sound-after size walk (New address bytes) sound =
    either (address == 0) _ _
    (Sound-same walk (with_failed walk) refl refl refl sound)
    (either (is_some (named walk address)) _ _
    (Sound-same walk (with_twice walk) refl refl refl sound)
    (either (nat_lt size bytes) _ _ (Sound-with_big walk address sound) (Sound-with_place walk address sound)))
Sound-after size walk (Release address) sound = Sound-after_release walk address sound
Sound-after size walk Failed sound = Sound-same walk (with_failed walk) refl refl refl sound

-- any list of operations leaves a walk so
pub Sound-fold : (size : ℕ) (walk : Walk) (operations : List Operation) → Sound walk → Sound (fold (after size) walk operations)
Sound-fold size walk [] sound = sound
Sound-fold size walk (operation ∷ operations) sound =
    Sound-fold size (after size walk operation) operations (Sound-after size walk operation sound)

-- the script of any operations is well formed
pub IsWellFormed-script_of : (size : ℕ) (cut : Bool) (operations : List Operation)
    → IsWellFormed (fold (after size) (begun cut) operations).script
IsWellFormed-script_of size cut operations =
    let sound = Sound-fold size (begun cut) operations (Sound-begun cut) in
    record { in_order = sound.in_order; leaves = sound.leaves }
