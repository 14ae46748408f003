-- what the actions of the views leave of the announcements and of the number of the state
use Rattle.std.proofs.Common.{◌≡◌, ◌≢◌, ℕ, ◌+◌, ◌<◌, ◌≤◌, ◌==◌, Bool, true, false, refl, sym, ◌∙◌, ap, inl, inr, arith}
use Rattle.std.specs.Prelude.{if◌then◌else◌}
use Rattle.std.proofs.lemmas.Bool.{cases_eq}
use Rattle.std.proofs.lemmas.Bool.Decides.{nat_tests}
use Rattle.word_layout.specs.Sizes.{Sizes, blocks}
use Rattle.word_layout.specs.Packing.{tag_of, value_of}
use Rattle.word_layout.specs.declared.name.WordName.TheVariants.{State, Announcement}
use Rattle.transfer_machine.specs.Loads.{loaded_tag}
use Rattle.transfer_machine.specs.Machine.{action_at, try_action, own_announcement, next_state}
use Rattle.transfer_machine.specs.Words.{name_of}
use Rattle.transfer_machine.specs.declared.action.Action.{Action}
use Rattle.transfer_machine.specs.declared.action.Action.TheVariants.{Load, Exchange}
use Rattle.transfer_machine.specs.declared.transfer.TransferView.{TransferView}
use Rattle.transfer_machine.specs.declared.stage.NextStep.{NextStep}
use Rattle.transfer_machine.specs.declared.stage.NextStep.TheVariants.{Rest, Announce, Try, LoadFinalState, LoadReply}
use Rattle.transfer_machine.specs.declared.stage.TryStep.{TryStep}
use Rattle.transfer_machine.specs.declared.stage.TryStep.TheVariants.{LoadState, LoadRecordWord, LoadCoveredSlot, ExchangeSlot}
use Rattle.transfer_machine.specs.declared.stage.TryStep.TheVariants.{LoadAnnouncement, LoadPoppedSlot, StoreRecordWord, ExchangeState}
use Rattle.transfer_invariant.specs.Memory.{Words, States, Acted, state_tag}
use Rattle.transfer_invariant.specs.Progress.{has_record}
use Rattle.transfer_invariant.specs.Records.{OwnRecord}
use Rattle.transfer_invariant.specs.Installing.{states_with_drafted, states_after_at, states_after_try_step}
use Rattle.transfer_invariant.proofs.Acts.{leaves_records, exchanges_state, keeps_state}
use Rattle.transfer_invariant.proofs.Keeps.{row_fits}
use Rattle.draft_invariant.specs.Heads.{AnnouncementsAreBlocks}
use Rattle.draft_invariant.specs.Pops.{PopsHold}

-- an action on another word
misses_announcements : (sizes : Sizes) (action : Action) (m n : Words) → Acted sizes action m n
    → ((o : ℕ) → Announcement o ≢ name_of action)
    → AnnouncementsAreBlocks sizes m
    → AnnouncementsAreBlocks sizes n
misses_announcements sizes action m n a other h o lo = rw (a.elsewhere (Announcement o) lo (other o)) (h o lo)

-- an action on an announcement
on_announcement : (sizes : Sizes) (action : Action) (process : ℕ) (m n : Words) → Acted sizes action m n
    → name_of action ≡ Announcement process
    → value_of (n (Announcement process)) ≤ blocks sizes → AnnouncementsAreBlocks sizes m → AnnouncementsAreBlocks sizes n
on_announcement sizes action process m n a name here h o lo = elim (cases_eq o process) [
  | inl e ↦ rw e here
  | inr ne ↦ rw (a.elsewhere (Announcement o) lo (λ e. ne cc)) (h o lo)
]

try_announcements_kept : (sizes : Sizes) (v : TransferView) (m n : Words) (second : Bool) (s : TryStep) → v.next ≡ Try second s
    → Acted sizes (try_action sizes v s) m n
    → ((second : Bool) (process : ℕ) → v.next ≡ Try second (LoadAnnouncement process) → process < sizes.processes)
    → AnnouncementsAreBlocks sizes m → AnnouncementsAreBlocks sizes n
try_announcements_kept sizes v m n second LoadState e a among h = misses_announcements sizes _ m n a (λ o d. cc) h
try_announcements_kept sizes v m n second (LoadRecordWord index) e a among h = misses_announcements sizes _ m n a (λ o d. cc) h
try_announcements_kept sizes v m n second (LoadCoveredSlot offset) e a among h = misses_announcements sizes _ m n a (λ o d. cc) h
try_announcements_kept sizes v m n second (ExchangeSlot offset) e a among h = misses_announcements sizes _ m n a (λ o d. cc) h
try_announcements_kept sizes v m n second (LoadAnnouncement process) e a among h =
    on_announcement sizes _ process m n a refl (rw a.here (h process (among second process e))) h
try_announcements_kept sizes v m n second (LoadPoppedSlot process) e a among h = misses_announcements sizes _ m n a (λ o d. cc) h
try_announcements_kept sizes v m n second (StoreRecordWord index) e a among h = misses_announcements sizes _ m n a (λ o d. cc) h
try_announcements_kept sizes v m n second ExchangeState e a among h = misses_announcements sizes _ m n a (λ o d. cc) h

-- a step keeps the heads in all announcements blocks, where the announcement that it stores names one
pub announcements_kept : (sizes : Sizes) (v : TransferView) (m n : Words) (s : NextStep) → v.next ≡ s
    → Acted sizes (action_at sizes v s) m n
    → (v.next ≡ Announce → value_of (own_announcement v) ≤ blocks sizes)
    → ((second : Bool) (process : ℕ) → v.next ≡ Try second (LoadAnnouncement process) → process < sizes.processes)
    → AnnouncementsAreBlocks sizes m → AnnouncementsAreBlocks sizes n
announcements_kept sizes v m n Rest e a own among h = misses_announcements sizes _ m n a (λ o d. cc) h
announcements_kept sizes v m n Announce e a own among h = on_announcement sizes _ v.number m n a refl (rw a.here (own e)) h
announcements_kept sizes v m n (Try second step) e a own among h = try_announcements_kept sizes v m n second step e a among h
announcements_kept sizes v m n LoadFinalState e a own among h = misses_announcements sizes _ m n a (λ o d. cc) h
announcements_kept sizes v m n LoadReply e a own among h = misses_announcements sizes _ m n a (λ o d. cc) h

-- an action on another word than the state
misses_state : (sizes : Sizes) (action : Action) (m n : Words) → Acted sizes action m n → State ≢ name_of action → state_tag n ≡ state_tag m
unfolding state_tag
misses_state sizes action m n a other = ap tag_of (a.elsewhere State tt other)

-- what a view knows of slots as long as the state stays, and once there is another one
pub pops_stay : (processes : ℕ) (m n : Words) (states : States) (w : TransferView) → state_tag n ≡ state_tag m
    → PopsHold processes m states w
    → PopsHold processes n states w
pops_stay processes m n states w e h = record { popping = h.popping; popped = λ has now j lt pop. rw e (h.popped has (now ∙ e) j lt pop) }

pops_past : (processes : ℕ) (m n : Words) (states later : States) (w : TransferView) → state_tag n ≡ state_tag m + 1
    → (has_record w.next ≡ true → loaded_tag w.loaded ≤ state_tag m) → PopsHold processes m states w → PopsHold processes n later w
pops_past processes m n states later w e past h =
    record { popping = h.popping; popped = λ has now j lt pop. let low = past has in absurd (omega arith) }

same_words : (a b : ℕ) → (a == b) ≡ true → a ≡ b
same_words a b h = grind (arith, nat_tests)

exchange_pops : (sizes : Sizes) (m n : Words) (states : States) (i : ℕ) (v w : TransferView) (t : Bool) → sizes.processes ≤ 32
    → i < sizes.processes
    → OwnRecord sizes m i v
    → (m State == v.loaded.state) ≡ t → Acted sizes (Exchange State v.loaded.state (next_state v)) m n
    → (has_record w.next ≡ true → loaded_tag w.loaded ≤ state_tag m) → PopsHold sizes.processes m states w
    → PopsHold sizes.processes n (if t then states_with_drafted m v states else states) w
unfolding state_tag
exchange_pops sizes m n states i v w true few li own test a past h =
    let state =
    (exchanges_state sizes v.loaded.state (loaded_tag v.loaded + 1) v.next_record m n (row_fits sizes m i v few li own) test a).state in
    pops_past sizes.processes m n states _ w (state ∙ ap (λ x. tag_of x + 1) (sym (same_words (m State) v.loaded.state test))) past h
exchange_pops sizes m n states i v w false few li own test a past h =
    pops_stay sizes.processes m n states w (keeps_state sizes v.loaded.state (next_state v) m n test a).state h

try_pops_kept : (sizes : Sizes) (m n : Words) (states : States) (i : ℕ) (v w : TransferView) (s : TryStep) → sizes.processes ≤ 32
    → i < sizes.processes → OwnRecord sizes m i v → Acted sizes (try_action sizes v s) m n
    → (s ≡ ExchangeState → has_record w.next ≡ true → loaded_tag w.loaded ≤ state_tag m) → PopsHold sizes.processes m states w
    → PopsHold sizes.processes n (states_after_try_step m v states s) w
try_pops_kept sizes m n states i v w LoadState few li own a past h =
    pops_stay sizes.processes m n states w (leaves_records sizes (Load State) m n a refl).state h
try_pops_kept sizes m n states i v w (LoadRecordWord index) few li own a past h =
    pops_stay sizes.processes m n states w (misses_state sizes _ m n a (λ d. cc)) h
try_pops_kept sizes m n states i v w (LoadCoveredSlot offset) few li own a past h =
    pops_stay sizes.processes m n states w (misses_state sizes _ m n a (λ d. cc)) h
try_pops_kept sizes m n states i v w (ExchangeSlot offset) few li own a past h =
    pops_stay sizes.processes m n states w (misses_state sizes _ m n a (λ d. cc)) h
try_pops_kept sizes m n states i v w (LoadAnnouncement process) few li own a past h =
    pops_stay sizes.processes m n states w (misses_state sizes _ m n a (λ d. cc)) h
try_pops_kept sizes m n states i v w (LoadPoppedSlot process) few li own a past h =
    pops_stay sizes.processes m n states w (misses_state sizes _ m n a (λ d. cc)) h
try_pops_kept sizes m n states i v w (StoreRecordWord index) few li own a past h =
    pops_stay sizes.processes m n states w (misses_state sizes _ m n a (λ d. cc)) h
try_pops_kept sizes m n states i v w ExchangeState few li own a past h =
    exchange_pops sizes m n states i v w (m State == v.loaded.state) few li own refl a (past refl) h

-- a step keeps what another view knows of the slots that it popped, also where it installs a later state
pub pops_kept : (sizes : Sizes) (m n : Words) (states : States) (i : ℕ) (v w : TransferView) (s : NextStep) → sizes.processes ≤ 32
    → i < sizes.processes → OwnRecord sizes m i v → Acted sizes (action_at sizes v s) m n
    → ((second : Bool) → s ≡ Try second ExchangeState → has_record w.next ≡ true → loaded_tag w.loaded ≤ state_tag m)
    → PopsHold sizes.processes m states w → PopsHold sizes.processes n (states_after_at m v states s) w
pops_kept sizes m n states i v w Rest few li own a past h =
    pops_stay sizes.processes m n states w (leaves_records sizes (Load State) m n a refl).state h
pops_kept sizes m n states i v w Announce few li own a past h =
    pops_stay sizes.processes m n states w (misses_state sizes _ m n a (λ d. cc)) h
pops_kept sizes m n states i v w (Try second step) few li own a past h =
    try_pops_kept sizes m n states i v w step few li own a (λ e. past second (ap (Try second) e)) h
pops_kept sizes m n states i v w LoadFinalState few li own a past h =
    pops_stay sizes.processes m n states w (leaves_records sizes (Load State) m n a refl).state h
pops_kept sizes m n states i v w LoadReply few li own a past h =
    pops_stay sizes.processes m n states w (misses_state sizes _ m n a (λ d. cc)) h
