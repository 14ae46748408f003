-- what the moving view keeps of its own facts
use Rattle.std.proofs.Common.{◌≡◌, ℕ, ◌+◌, ◌<◌, ◌≤◌, Bool, true, false, refl, ◌∙◌, ap, arith, length}
use Rattle.std.specs.Prelude.{if◌then◌else◌}
use Rattle.std.proofs.lemmas.Bool.Decides.{nat_tests}
use Rattle.word_layout.specs.Sizes.{Sizes}
use Rattle.word_layout.specs.Packing.{tag_of, wish_code, FitsWish}
use Rattle.word_layout.proofs.Packed.{tag_of-tagged, wish_code_lt}
use Rattle.transfer_machine.specs.Loads.{loaded_tag}
use Rattle.transfer_machine.specs.Machine.{try_ended, installed, own_announcement}
use Rattle.transfer_machine.specs.States.{StackState}
use Rattle.transfer_machine.specs.declared.transfer.TransferView.{TransferView}
use Rattle.transfer_machine.specs.declared.stage.NextStep.TheVariants.{Announce, Try, LoadFinalState, LoadReply}
use Rattle.transfer_machine.specs.declared.stage.TryStep.{TryStep}
use Rattle.transfer_machine.specs.declared.stage.TryStep.TheVariants.{LoadState, LoadRecordWord, ExchangeState}
use Rattle.transfer_invariant.specs.Memory.{Words, States, state_tag}
use Rattle.transfer_invariant.specs.Progress.{has_loaded_state, in_try, has_announced, in_first_try, in_second_try}
use Rattle.transfer_invariant.specs.Records.{TagsBelow}
use Rattle.helping_invariant.specs.Parts.{AppliedRises, AnnouncementHolds, TwoTries, SettledReply, HearsPresent}
use Rattle.helping_invariant.proofs.Changes.{AnnouncementStored, StatesGrow, AppliesHeard}

-- the transfer of the view pends on
pub record Pends (v x : TransferView) : Type 0 where
  pub was : has_announced v.next ≡ true
  pub pends : has_announced x.next ≡ true
  pub number : x.number ≡ v.number
  pub age : x.age ≡ v.age
  pub wish : x.wish ≡ v.wish
  pub room : length x.loaded.announcements ≡ length v.loaded.announcements

-- while a transfer pends on, its process's announcement says what it must
pub pends_announced : (m : Words) (states : States) (i : ℕ) (v x : TransferView) → AnnouncementHolds m states i v → Pends v x
    → AnnouncementHolds m states i x
pends_announced m states i v x h g = record {
  number = g.number ∙ h.number;
  room = g.room ∙ h.room;
  tag = rw g.age h.tag;
  word = λ k. rw (g.age, g.wish) (h.word g.was);
  most = rw g.age h.most;
  least = rw g.age h.least;
  idle = λ k. absurd (grind (arith, g.pends, k));
}

-- and its reply stays settled
pub pends_settled : (sizes : Sizes) (m : Words) (states : States) (i : ℕ) (v x : TransferView) → SettledReply sizes m states i v → Pends v x
    → SettledReply sizes m states i x
pends_settled sizes m states i v x h g = record {
  in_states = λ k t le e. h.in_states g.was t le (rw g.age at e);
  in_records = λ k row lr some e. h.in_records g.was row lr some (rw g.age at e);
}

-- the view stays in its try of its transfer
pub record StaysInTry (v x : TransferView) : Type 0 where
  pub was : in_try v.next ≡ true
  pub trying : in_try x.next ≡ true
  pub first : in_first_try x.next ≡ true → in_first_try v.next ≡ true
  pub second : in_second_try x.next ≡ true → in_second_try v.next ≡ true
  pub number : x.number ≡ v.number
  pub age : x.age ≡ v.age
  pub wish : x.wish ≡ v.wish
  pub first_loaded : x.first_loaded ≡ v.first_loaded
  pub loaded : loaded_tag x.loaded ≡ loaded_tag v.loaded
  pub room : length x.loaded.announcements ≡ length v.loaded.announcements

-- while a view stays in its try, the part two tries holds of its process
pub stays_tries : (m : Words) (states : States) (i : ℕ) (v x : TransferView) → TwoTries m states i v → StaysInTry v x
    → TwoTries m states i x
stays_tries m states i v x h g = grind arith

-- the end of a try that installed nothing: the state has moved on
pub tries_ended : (m : Words) (states : States) (i : ℕ) (second : Bool) (step : TryStep) (v : TransferView) → TwoTries m states i v
    → v.next ≡ Try second step → has_loaded_state step ≡ true → v.installed ≤ v.first_loaded → loaded_tag v.loaded < state_tag m
    → TwoTries m states i (try_ended second v)
tries_ended m states i second step v h e was none moved = grind (arith, nat_tests)

-- the state is loaded, at the beginning of a try
pub tries_loaded : (m : Words) (states : States) (i : ℕ) (second : Bool) (v x : TransferView) → TwoTries m states i v
    → v.next ≡ Try second LoadState → x.next ≡ Try second (LoadRecordWord 0) → x.age ≡ v.age → loaded_tag x.loaded ≡ state_tag m
    → x.first_loaded ≡ (if second then v.first_loaded else state_tag m) → TwoTries m states i x
tries_loaded m states i second v x h e en ea el ef = grind (arith, nat_tests)

-- and at the end
pub tries_final : (m : Words) (states : States) (i : ℕ) (v x : TransferView) → TwoTries m states i v → v.next ≡ LoadFinalState
    → x.next ≡ LoadReply → x.age ≡ v.age → x.installed ≡ v.installed → x.first_loaded ≡ v.first_loaded → loaded_tag x.loaded ≡ state_tag m
    → TwoTries m states i x
tries_final m states i v x h e en ea ei ef el = grind arith

-- no transfer is announced
pub tries_idle : (m : Words) (states : States) (i : ℕ) (x : TransferView) → has_announced x.next ≡ false → TwoTries m states i x
tries_idle m states i x e = grind arith

-- a process that has announced no transfer has no reply to be settled
pub settled_idle : (sizes : Sizes) (m : Words) (states : States) (i : ℕ) (x : TransferView) → has_announced x.next ≡ false
    → SettledReply sizes m states i x
settled_idle sizes m states i x e = grind arith

-- once its last transfer is applied, a process without an announced one still has the announcement of its age
pub announced_idle : (m : Words) (states : States) (i : ℕ) (v x : TransferView) → AnnouncementHolds m states i v
    → has_announced x.next ≡ false → (states (state_tag m)).applied i ≡ v.age → x.number ≡ v.number → x.age ≡ v.age
    → length x.loaded.announcements ≡ length v.loaded.announcements → AnnouncementHolds m states i x
announced_idle m states i v x h none applied en ea el = grind arith

-- a transfer is announced
pub announced_own : (sizes : Sizes) (m n : Words) (states : States) (i : ℕ) (v : TransferView) → AnnouncementHolds m states i v
    → v.next ≡ Announce → FitsWish v.wish → state_tag n ≡ state_tag m → AnnouncementStored sizes m n i (own_announcement v)
    → AnnouncementHolds n states i (record v { next = Try false LoadState; age = v.age + 1 })
announced_own sizes m n states i v h e fits same s =
    let applied : (states (state_tag n)).applied i ≡ v.age = rw same (h.idle (rw e refl)) in
    record {
      number = h.number;
      room = h.room;
      tag = ap tag_of s.here ∙ tag_of-tagged (v.age + 1) (wish_code v.wish) (wish_code_lt v.wish fits);
      word = λ k. s.here;
      most = omega arith;
      least = omega arith;
      idle = λ k. absurd (grind arith);
    }

-- a transfer that has just been announced has begun no try
pub announced_tries : (m : Words) (states : States) (i : ℕ) (v : TransferView)
    → TwoTries m states i (record v { next = Try false LoadState; age = v.age + 1 })
announced_tries m states i v = grind (arith, nat_tests)

-- no state and no record has applied a transfer that has just been announced
pub announced_settled : (sizes : Sizes) (m : Words) (states : States) (i : ℕ) (v : TransferView) → i < sizes.processes
    → TagsBelow sizes m → AppliedRises sizes m states → (states (state_tag m)).applied i ≡ v.age
    → SettledReply sizes m states i (record v { next = Try false LoadState; age = v.age + 1 })
announced_settled sizes m states i v li low c h = grind (arith, c.rises i, low)

-- a state is installed: it applied the own transfer
pub installed_tries : (processes : ℕ) (m n : Words) (states later : States) (next : StackState) (i : ℕ) (second : Bool) (v : TransferView)
    → i < processes → AnnouncementHolds m states i v → TwoTries m states i v → HearsPresent processes m states i v v
    → v.next ≡ Try second ExchangeState → loaded_tag v.loaded ≡ state_tag m → StatesGrow m n states later next
    → AppliesHeard processes (states (state_tag m)) next v → TwoTries n later i (installed v)
installed_tries processes m n states later next i second v li h t p e now g a = grind (arith, nat_tests)
