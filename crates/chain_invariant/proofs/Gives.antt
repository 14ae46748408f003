-- what the part gives, whatever the blocks of the batches and of the current lists are
use Rattle.std.proofs.Common.{◌≡◌, ◌≢◌, ℕ, ◌+◌, ◌-◌, ◌<◌, ◌≤◌, true, false, refl, length, arith}
use Rattle.std.specs.Prelude.{if◌then◌else◌, nat_lt, slice_index, Contains}
use Rattle.std.specs.List.{All}
use Rattle.std.proofs.lemmas.Bool.Decides.{nat_tests}
use Rattle.word_layout.specs.Sizes.{Sizes, IsShape, blocks}
use Rattle.word_layout.specs.declared.name.WordName.TheVariants.{Next}
use Rattle.word_layout.proofs.Limits.{two_blocks_a_batch}
use Rattle.transfer_machine.specs.States.{StackState}
use Rattle.transfer_machine.specs.declared.transfer.TransferView.{TransferView}
use Rattle.transfer_machine.specs.declared.stage.NextStep.TheVariants.{Announce}
use Rattle.transfer_invariant.specs.Installing.{drafted_state}
use Rattle.transfer_invariant.specs.Memory.{Words}
use Rattle.transfer_invariant.specs.Progress.{has_announced}
use Rattle.transfer_invariant.specs.Laws.{DraftFits, WishIsBlock}
use Rattle.batch_invariant.specs.Places.{moving}
use Rattle.batch_invariant.specs.Batches.{ProcessViews}
use Rattle.batch_invariant.specs.Premises.{InstallsNext}
use Rattle.chain_invariant.specs.Chains.{BlockLists, Chains, times_pooled}
use Rattle.chain_invariant.specs.Laws.{IsFree}
use Rattle.chain_invariant.proofs.Moves.{installs_carry}
use Rattle.chain_invariant.proofs.Pool.{spare_pooled}
use Rattle.chain_invariant.proofs.Places.{head_once}
use Rattle.chain_invariant.proofs.Counts.{content_low, spare_low, transit_low, begun_low, pending_low, current_is_free, current_code}
use Rattle.chain_invariant.proofs.Counts.{current_next, head_is_free, head_next, held_apart, room}

-- the drafted overlay stands above the drafted base
drafted_height : (s : StackState) (v : TransferView) → (drafted_state s v).height ≡ v.draft.base + v.draft.overlay
unfolding drafted_state
drafted_height s v = refl

overlay_above : (base k low : ℕ) (high : ℕ → ℕ) → (if nat_lt (base + k) base then low else high (base + k - base)) ≡ high k
overlay_above base k low high =
    let test : nat_lt (base + k) base ≡ false = grind (arith, nat_tests) in
    let place : base + k - base ≡ k = omega arith in rw (test, place) refl

drafted_overlay : (s : StackState) (v : TransferView) (k : ℕ) → (drafted_state s v).content (v.draft.base + k) ≡ slice_index v.draft.heads k
unfolding drafted_state
drafted_overlay s v k = overlay_above v.draft.base k (s.content (v.draft.base + k)) (λ place. slice_index v.draft.heads place)

-- so a draft has room where the state that it makes has
drafted_fits : (sizes : Sizes) (s : StackState) (v : TransferView) → (drafted_state s v).height ≤ sizes.batches
    → ((place : ℕ) → place < (drafted_state s v).height → (drafted_state s v).content place < blocks sizes) → DraftFits sizes v.draft
drafted_fits sizes s v within low =
    let height = drafted_height s v in
    record {
      within = omega (arith, height, within);
      heads = λ k lt. omega (arith, drafted_overlay s v k, low (v.draft.base + k) (omega (arith, height)));
    }

-- a batch has a block
pub some_long : (sizes : Sizes) → IsShape sizes → 1 ≤ sizes.length
some_long sizes shape = omega (arith, two_blocks_a_batch sizes shape)

module _ (sizes : Sizes) (words : Words) (s : StackState) (views : ProcessViews) (held : BlockLists) where
  pub current_lists_are_free : (i : ℕ) → i < sizes.processes → Chains sizes words s views held
      → ((views i).pool.plan.current ≡ 0 → (views i).pool.head ≡ 0)
      × ((views i).pool.plan.current ≢ 0 → 1 ≤ (views i).pool.head)
      × ((views i).pool.plan.current ≢ 0 → IsFree sizes held ((views i).pool.head - 1))
      × ((views i).pool.plan.current ≢ 0 → words (Next ((views i).pool.head - 1)) ≤ blocks sizes)
  current_lists_are_free i li chains = (
    current_code sizes words s views chains.batch_blocks chains.current_blocks held chains.hold i li,
    λ some. (current_is_free sizes words s views chains.batch_blocks chains.current_blocks held chains.hold i li some).1,
    λ some. (current_is_free sizes words s views chains.batch_blocks chains.current_blocks held chains.hold i li some).0,
    λ some. current_next sizes words s views chains.batch_blocks chains.current_blocks held chains.hold i li some,
  )

  pub spares_are_free : (i place : ℕ) → IsShape sizes → i < sizes.processes → Chains sizes words s views held
      → place < length (views i).pool.heads
      → IsFree sizes held (slice_index (views i).pool.heads place) × (words (Next (slice_index (views i).pool.heads place)) ≤ blocks sizes)
  spares_are_free i place shape li chains lt =
      let head = slice_index (views i).pool.heads place in
      let pooled = spare_pooled sizes s views i place li lt in (
        head_is_free sizes words s views chains.batch_blocks chains.current_blocks held chains.hold head (some_long sizes shape) pooled,
        head_next sizes words s views chains.batch_blocks chains.current_blocks held chains.hold head (some_long sizes shape) pooled,
      )

  pub held_are_apart : (i block : ℕ) → i < sizes.processes → Chains sizes words s views held → Contains (held i) block
      → (block < blocks sizes) × ((o : ℕ) → o < sizes.processes → o ≢ i → ¬ Contains (held o) block)
  held_are_apart i block li chains has =
      held_apart sizes words s views chains.batch_blocks chains.current_blocks held chains.hold i block li has

  pub stack_has_room : IsShape sizes → Chains sizes words s views held → s.height ≤ sizes.batches
  stack_has_room shape chains = room sizes words s views chains.batch_blocks chains.current_blocks held chains.hold (some_long sizes shape)

  pub heads_are_blocks : IsShape sizes → Chains sizes words s views held
      → ((place : ℕ) → place < s.height → s.content place < blocks sizes)
      × ((i place : ℕ) → i < sizes.processes → place < length (views i).pool.heads → slice_index (views i).pool.heads place < blocks sizes)
      × ((i : ℕ) → i < sizes.processes → All (λ head. head < blocks sizes) (moving s i (views i).transfer))
  heads_are_blocks shape chains = let long = some_long sizes shape in (
    λ place lt. content_low sizes words s views chains.batch_blocks chains.current_blocks held chains.hold place long lt,
    λ i place li lt. spare_low sizes words s views chains.batch_blocks chains.current_blocks held chains.hold i place long li lt,
    λ i li. transit_low sizes words s views chains.batch_blocks chains.current_blocks held chains.hold i long li,
  )

  pub heads_are_apart : (head : ℕ) → IsShape sizes → Chains sizes words s views held → times_pooled sizes s views head ≤ 1
  heads_are_apart head shape chains =
      head_once sizes words s views chains.batch_blocks chains.current_blocks held chains.hold head (some_long sizes shape)

  pub gives_are_blocks : (i : ℕ) → IsShape sizes → Chains sizes words s views held → i < sizes.processes
      → ((views i).transfer.next ≡ Announce → WishIsBlock sizes (views i).transfer.wish)
      × (has_announced (views i).transfer.next ≡ true → s.applied i ≢ (views i).transfer.age → WishIsBlock sizes (views i).transfer.wish)
  gives_are_blocks i shape chains li = let long = some_long sizes shape in (
    begun_low sizes words s views chains.batch_blocks chains.current_blocks held chains.hold i long li,
    pending_low sizes words s views chains.batch_blocks chains.current_blocks held chains.hold i long li,
  )

  pub drafts_have_room : (v : TransferView) → IsShape sizes → Chains sizes words s views held → InstallsNext sizes s views v
      → DraftFits sizes v.draft
  drafts_have_room v shape chains installs =
      let long = some_long sizes shape in
      let hold = installs_carry sizes words s views chains.batch_blocks chains.current_blocks held v shape chains.hold installs in
      drafted_fits sizes s v (room sizes words (drafted_state s v) views chains.batch_blocks chains.current_blocks held hold long)
      (λ place lt. content_low sizes words (drafted_state s v) views chains.batch_blocks chains.current_blocks held hold place long lt)
