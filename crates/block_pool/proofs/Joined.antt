-- The seats of all passes are joined, one after another.
use Rattle.std.proofs.Common.{◌≡◌, ℕ, ◌+◌, ◌*◌, ◌^◌, ◌≤◌, true, List, [], ◌∷◌, ◌++◌, length, map, sym, ap, ◌∙◌, subst, arith}
use Rattle.std.proofs.Common.{append_assoc, append-nil}
use Rattle.std.specs.List.{All}
use Rattle.std.proofs.lemmas.List.{map-append}
use Rattle.std.proofs.lemmas.List.Elements.{All-same, All-head, All-tail}
use Rattle.word_layout.specs.Sizes.{Sizes, IsShape}
use Rattle.word_table.specs.Seats.{Seated, SameSeat}
use Rattle.pool_table.specs.Minds.{Mind, held_in}
use Rattle.pool_table.specs.Views.{SeatView}
use Rattle.pool_table.specs.Steps.{Among}
use Rattle.pool_table.specs.Joins.{Joined}
use Rattle.pool_seats.specs.Settling.{held_count}
use Rattle.block_pool.specs.declared.process.Process.{Process}
use Rattle.block_pool.specs.Passing.{Pooled, Passed, IsOf, PassFits, pass_of}
use Rattle.block_pool.specs.Closing.{AreAllPasses}
use Rattle.block_pool.specs.Joining.{Told, told_by_mind, told_by_pass, HasJoined}
use Rattle.block_pool.proofs.Counting.{holds_few}

-- the loop that joins them: the kept seat has the minds of all passes but the further ones, in their order
pub record IsJoining (pool : Pooled) (passes further : List Passed) (steps : ℕ) (kept : Seated SeatView) (holding : ℕ) : Type 0 where
  pub at_table : kept.table ≡ pool.table
  pub of_process : kept.view.of_process ≡ true
  pub sizes : kept.view.sizes ≡ pool.sizes
  pub among : Among kept.view
  pub minds : map told_by_mind (kept.view.mind ∷ kept.view.taken) ++ map told_by_pass further ≡ map told_by_pass passes
  pub each : All (IsOf pool) further
  pub counted : holding ≡ held_count (kept.view.mind ∷ kept.view.taken)
  -- no sum wraps: a process holds at most 2^22 blocks, and there are at most 32 of them
  pub few : holding + 2 ^ 22 * length further ≤ 2 ^ 27
  pub short : steps + 2 * length further ≤ 64

-- the first one keeps its seat
pub first_kept : (pool : Pooled) (passes further : List Passed) (pass : Passed) (sizes : Sizes) (process : Process) (holding steps : ℕ)
    → IsShape pool.sizes → AreAllPasses pool passes → passes ≡ pass ∷ further → pass ≡ pass_of process.seat
    → PassFits sizes process holding → steps ≡ 0
    → IsJoining pool passes further steps process.seat holding
first_kept pool passes further pass sizes process holding steps shape all split is fits none =
    let between = fits.between_calls in
    let passed : passes ≡ pass_of process.seat ∷ further = split ∙ ap (λ p. p ∷ further) is in
    let each = All-same (IsOf pool) (pass_of process.seat ∷ further) passes (sym passed) all.each in
    let is_of = All-head (IsOf pool) (pass_of process.seat) further each in
    let few = holds_few sizes process between in
    let many = ap length passed in
    record {
      at_table = is_of.table;
      of_process = between.of_process;
      sizes = is_of.sizes;
      among = between.among;
      minds = ap (λ taken. map told_by_mind (process.seat.view.mind ∷ taken) ++ map told_by_pass further) fits.bare
          ∙ sym (ap (map told_by_pass) passed);
      each = All-tail (IsOf pool) (pass_of process.seat) further each;
      counted = omega (arith, fits.counted, ap held_count fits.bare);
      few = omega (arith, few, fits.counted, many, all.many, shape.few_processes);
      short = omega (arith, none, many, all.many, shape.few_processes);
    }

-- the next one is of this pool
pub next_is_of : (pool : Pooled) (passes before further : List Passed) (pass : Passed) (kept : Seated SeatView) (process : Process)
    (steps holding : ℕ) → IsJoining pool passes before steps kept holding → before ≡ pass ∷ further → pass ≡ pass_of process.seat
    → IsOf pool (pass_of process.seat)
next_is_of pool passes before further pass kept process steps holding joining split is =
    subst (IsOf pool) is (All-head (IsOf pool) pass further (All-same (IsOf pool) (pass ∷ further) before (sym split) joining.each))

-- its blocks can be added
pub next_is_few : (pool : Pooled) (passes before further : List Passed) (pass : Passed) (kept : Seated SeatView) (sizes : Sizes)
    (process : Process) (steps held holding : ℕ) → IsJoining pool passes before steps kept held
    → before ≡ pass ∷ further → PassFits sizes process holding
    → held + holding + 2 ^ 22 * length further ≤ 2 ^ 27
next_is_few pool passes before further pass kept sizes process steps held holding joining split fits =
    let few = holds_few sizes process fits.between_calls in
    omega (arith, few, fits.counted, joining.few, ap length split)

-- what the kept seat holds and what it tells, with one more
held_more : (minds : List Mind) (mind : Mind) → held_count (minds ++ mind ∷ []) ≡ held_count minds + length (held_in mind)
held_more [] mind = omega arith
held_more (first ∷ minds) mind = omega (arith, held_more minds mind)

told_more : (first : Mind) (taken : List Mind) (mind : Mind) (further : List Told)
    → map told_by_mind (first ∷ (taken ++ mind ∷ [])) ++ further ≡ map told_by_mind (first ∷ taken) ++ told_by_mind mind ∷ further
told_more first taken mind further =
    ap (λ told. (told_by_mind first ∷ told) ++ further) (map-append told_by_mind taken (mind ∷ []))
    ∙ append_assoc (map told_by_mind (first ∷ taken)) (told_by_mind mind ∷ []) further

-- the next one is joined
pub one_joined : (pool : Pooled) (passes before further : List Passed) (pass : Passed) (kept after : Seated SeatView) (sizes : Sizes)
    (process : Process) (steps ticked held holding : ℕ) → IsJoining pool passes before steps kept held
    → before ≡ pass ∷ further → pass ≡ pass_of process.seat → PassFits sizes process holding
    → SameSeat kept after → ticked ≡ steps + 2 → Joined kept.view process.seat.view after.view
    → IsJoining pool passes further ticked after (held + holding)
one_joined pool passes before further pass kept after sizes process steps ticked held holding joining split is fits same ticks joined =
    let mind = process.seat.view.mind in
    let old = kept.view in
    let passed : before ≡ pass_of process.seat ∷ further = split ∙ ap (λ p. p ∷ further) is in
    let each = All-same (IsOf pool) (pass_of process.seat ∷ further) before (sym passed) joining.each in
    record {
      at_table = same.0 ∙ joining.at_table;
      of_process = ap (λ (v : SeatView). v.of_process) joined.view ∙ joining.of_process;
      sizes = ap (λ (v : SeatView). v.sizes) joined.view ∙ joining.sizes;
      among = joined.among;
      minds = ap (λ (v : SeatView). map told_by_mind (v.mind ∷ v.taken) ++ map told_by_pass further) joined.view
          ∙ told_more old.mind old.taken mind (map told_by_pass further)
          ∙ ap (λ rest. map told_by_mind (old.mind ∷ old.taken) ++ map told_by_pass rest) (sym passed)
          ∙ joining.minds;
      each = All-tail (IsOf pool) (pass_of process.seat) further each;
      counted = omega (
        arith,
        joining.counted,
        fits.counted,
        ap (λ (v : SeatView). held_count (v.mind ∷ v.taken)) joined.view,
        held_more (old.mind ∷ old.taken) mind,
      );
      few = next_is_few pool passes before further pass kept sizes process steps held holding joining split fits;
      short = omega (arith, joining.short, ticks, ap length split);
    }

-- all are joined
pub all_joined : (pool : Pooled) (passes further : List Passed) (kept : Seated SeatView) (steps holding : ℕ)
    → IsJoining pool passes further steps kept holding → length further ≡ 0
    → HasJoined pool passes kept.view holding
all_joined pool passes [] kept steps holding joining none = record {
  of_process = joining.of_process;
  sizes = joining.sizes;
  among = joining.among;
  minds = sym (append-nil (map told_by_mind (kept.view.mind ∷ kept.view.taken))) ∙ joining.minds;
  counted = joining.counted;
}
all_joined pool passes (pass ∷ further) kept steps holding joining none = absurd (omega (arith, none))
