-- how the number of states that a view may have installed goes on
use Rattle.std.proofs.Common.{◌*◌, ◌≡◌, ℕ, ◌+◌, ◌<◌, ◌≤◌, Bool, true, false, refl, ap, inl, inr, arith}
use Rattle.std.specs.Prelude.{if◌then◌else◌}
use Rattle.std.proofs.lemmas.Bool.{cases_eq}
use Rattle.std.proofs.lemmas.Bool.Decides.{nat_tests}
use Rattle.process_sums.proofs.Sums.{total_moved, total_at_most}
use Rattle.word_layout.specs.Sizes.{Sizes}
use Rattle.word_layout.specs.Packing.{tag_limit, most_age}
use Rattle.word_layout.proofs.Ages.{most_age_has_tags}
use Rattle.transfer_machine.specs.Loads.{loaded_tag}
use Rattle.transfer_machine.specs.Machine.{try_ended, installed}
use Rattle.transfer_machine.specs.declared.transfer.TransferView.{TransferView}
use Rattle.transfer_machine.specs.declared.stage.NextStep.{NextStep}
use Rattle.transfer_machine.specs.declared.stage.NextStep.TheVariants.{Announce, Try, LoadFinalState, LoadReply}
use Rattle.transfer_machine.specs.declared.stage.TryStep.TheVariants.{LoadState, LoadRecordWord, ExchangeState}
use Rattle.transfer_invariant.specs.Memory.{Words, Views, Moved, state_tag}
use Rattle.transfer_invariant.specs.Progress.{in_try, has_announced, has_begun_try}
use Rattle.transfer_invariant.specs.Tags.{InstallOrder, TagsHold, installs}

-- the number of states rises only with what the moving view may have installed
pub order_stays : (m n : Words) (v : TransferView) → InstallOrder m v → state_tag m ≤ state_tag n → InstallOrder n v
order_stays m n v h le = grind arith

-- where the state's number rises by no more than the count of the states that the moving view installed, the count stays right
pub tags_move : (sizes : Sizes) (m n : Words) (views after : Views) (i : ℕ) (x : TransferView) → i < sizes.processes
    → TagsHold sizes m views → Moved i x views after → state_tag m ≤ state_tag n
    → state_tag n + installs (views i) ≤ state_tag m + installs x → InstallOrder n x → TagsHold sizes n after
tags_move sizes m n views after i x li h moved le step order = record {
  count =
      let old = λ (k : ℕ). installs (views k) in
      let new = λ (k : ℕ). installs (after k) in
      let sum = total_moved sizes.processes i old new li (λ o lo ne. ap installs (moved.elsewhere o ne)) in
      omega (arith, h.count, sum, ap installs moved.here);
  order = λ o lo. elim (cases_eq o i) [
    | inl e ↦ rw e (rw moved.here order)
    | inr ne ↦ rw (moved.elsewhere o ne) (order_stays m n (views o) (h.order o lo) le)
  ];
}

-- a view that goes on in its try
pub record GoesOnTrying (v x : TransferView) : Type 0 where
  pub was : in_try v.next ≡ true
  pub trying : in_try x.next ≡ true
  pub age : x.age ≡ v.age
  pub installed : x.installed ≡ v.installed
  pub first : x.first_loaded ≡ v.first_loaded
  pub loaded : loaded_tag x.loaded ≡ loaded_tag v.loaded

-- in a try that has loaded the state, the transfer is announced
pub try_announced : (s : NextStep) → in_try s ≡ true → has_announced s ≡ true
try_announced s h = grind arith

-- in such a try, the first try has loaded the state
pub try_begun : (s : NextStep) → in_try s ≡ true → has_begun_try s ≡ true
try_begun s h = grind arith

try_loads_not : (s : NextStep) (second : Bool) → in_try s ≡ true → s ≡ Try second LoadState → ⊥
try_loads_not s second h e = grind arith

-- a view that goes on in its try keeps the order of the states that it loaded and installed
pub trying_order : (m : Words) (v x : TransferView) → InstallOrder m v → GoesOnTrying v x → InstallOrder m x
trying_order m v x h g = record {
  counted = λ k. rw g.age (h.counted (try_announced v.next g.was));
  load_none = λ e. absurd (try_loads_not x.next true g.trying e);
  try_none = λ k. rw (g.installed, g.first) (h.try_none g.was);
  past = λ k. rw g.first (h.past (try_begun v.next g.was));
  before = λ k. rw (g.first, g.loaded) (h.before g.was);
}

-- and it counts as many installed states
pub trying_installs : (v x : TransferView) → GoesOnTrying v x → installs x ≡ installs v
unfolding installs
trying_installs v x g =
    let announced = try_announced x.next g.trying in
    let was_announced = try_announced v.next g.was in
    let begun = try_begun x.next g.trying in
    let was_begun = try_begun v.next g.was in
    rw (g.age, g.installed, g.first, announced, was_announced, begun, was_begun) refl

-- the end of a try that installed nothing
pub ended_order : (m : Words) (second : Bool) (v : TransferView) → InstallOrder m v → in_try v.next ≡ true
    → InstallOrder m (try_ended second v)
ended_order m second v h e = grind (arith, nat_tests)

-- a try that ends and installed nothing leaves the count of its process's states
pub ended_installs : (m : Words) (second : Bool) (v : TransferView) → InstallOrder m v → in_try v.next ≡ true
    → installs (try_ended second v) ≡ installs v
unfolding installs
ended_installs m second v h e = grind (arith, nat_tests)

-- the announcement, the load of the state, the installed state, the end
pub announced_order : (m : Words) (v : TransferView) → InstallOrder m (record v { next = Try false LoadState; age = v.age + 1 })
announced_order m v = grind (arith, nat_tests)

-- an announcement counts one transfer more, which installed nothing yet
pub announced_installs : (v : TransferView) → v.next ≡ Announce
    → installs (record v { next = Try false LoadState; age = v.age + 1 }) ≡ installs v
unfolding installs
announced_installs v e = grind (arith, nat_tests)

-- the load of the state in a try keeps the order, where the process's last installed state is at most the present one
pub loaded_order : (m : Words) (second : Bool) (v x : TransferView) → InstallOrder m v → v.next ≡ Try second LoadState
    → v.installed ≤ state_tag m → x.next ≡ Try second (LoadRecordWord 0) → x.age ≡ v.age → x.installed ≡ v.installed
    → loaded_tag x.loaded ≡ state_tag m → x.first_loaded ≡ (if second then v.first_loaded else state_tag m) → InstallOrder m x
loaded_order m second v x h e low en ea ei el ef = grind (arith, nat_tests)

-- the load of the state leaves the count of its process's states
pub loaded_installs : (m : Words) (second : Bool) (v x : TransferView) → InstallOrder m v → v.next ≡ Try second LoadState
    → v.installed ≤ state_tag m → x.next ≡ Try second (LoadRecordWord 0) → x.age ≡ v.age → x.installed ≡ v.installed
    → x.first_loaded ≡ (if second then v.first_loaded else state_tag m) → installs x ≡ installs v
unfolding installs
loaded_installs m second v x h e low en ea ei ef = grind (arith, nat_tests)

-- a view that installs a state keeps the order, as the state's number doesn't fall
pub installed_order : (m n : Words) (second : Bool) (v : TransferView) → InstallOrder m v → v.next ≡ Try second ExchangeState
    → state_tag m ≤ state_tag n → InstallOrder n (installed v)
installed_order m n second v h e le = grind (arith, nat_tests)

-- an installed state counts one more for its process
pub installed_installs : (m : Words) (second : Bool) (v : TransferView) → InstallOrder m v → v.next ≡ Try second ExchangeState
    → installs (installed v) ≡ installs v + 1
unfolding installs
installed_installs m second v h e = grind (arith, nat_tests)

-- the load of the state at the end keeps the order
pub final_order : (m : Words) (v x : TransferView) → InstallOrder m v → v.next ≡ LoadFinalState → x.next ≡ LoadReply → x.age ≡ v.age
    → x.first_loaded ≡ v.first_loaded → InstallOrder m x
final_order m v x h e en ea ef = grind (arith, nat_tests)

-- and the count
pub final_installs : (v x : TransferView) → v.next ≡ LoadFinalState → x.next ≡ LoadReply → x.age ≡ v.age → x.first_loaded ≡ v.first_loaded
    → x.installed ≡ v.installed → installs x ≡ installs v
unfolding installs
final_installs v x e en ea ef ei = grind (arith, nat_tests)

-- a view that isn't in an announced transfer
pub idle_order : (m : Words) (x : TransferView) → has_announced x.next ≡ false → InstallOrder m x
idle_order m x h = grind (arith, nat_tests)

-- a process that has no announced transfer counts no fewer installed states than with one, at the same age
pub idle_installs : (v x : TransferView) → has_announced x.next ≡ false → x.age ≡ v.age → installs v ≤ installs x
unfolding installs
idle_installs v x h ea = grind (arith, nat_tests)

-- at most as many each as its age may be
installs_few : (v : TransferView) (most : ℕ) → v.age ≤ most → installs v ≤ most
unfolding installs
installs_few v most le = omega arith

-- where all ages are within their limit, the number above the state's is a tag
pub few_tags : (sizes : Sizes) (words : Words) (views : Views) → 1 ≤ sizes.processes → TagsHold sizes words views
    → ((i : ℕ) → i < sizes.processes → (views i).age ≤ most_age sizes) → state_tag words + 1 < tag_limit
few_tags sizes words views some h ages =
    let each = λ (o : ℕ) (lo : o < sizes.processes). installs_few (views o) (most_age sizes) (ages o lo) in
    let most = total_at_most (most_age sizes) sizes.processes (λ i. installs (views i)) each in
    let count = h.count in
    omega (arith, most_age_has_tags sizes some)
