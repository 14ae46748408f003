-- the steps that store a record word and that exchange the state
use Rattle.std.proofs.Common.{◌≡◌, ℕ, ◌+◌, ◌%◌, ◌<◌, ◌≤◌, ◌==◌, Bool, true, false, refl, sym, ◌∙◌, ap, arith, get_or}
use Rattle.std.specs.Prelude.{if◌then◌else◌}
use Rattle.std.proofs.lemmas.Bool.{eqb-true, eqb-false}
use Rattle.std.proofs.lemmas.Bool.Decides.{nat_tests}
use Rattle.word_layout.specs.Sizes.{Sizes}
use Rattle.word_layout.specs.Packing.{tag_of, value_limit, is_odd_reply}
use Rattle.word_layout.specs.declared.name.WordName.TheVariants.{State, Announcement}
use Rattle.transfer_machine.specs.Loads.{loaded_tag}
use Rattle.transfer_machine.specs.Tries.{drafted_value}
use Rattle.transfer_machine.specs.NextStates.{IsLoaded}
use Rattle.transfer_machine.specs.Machine.{try_action, next_state}
use Rattle.transfer_machine.specs.Machine.{try_ended, installed, after_stored}
use Rattle.transfer_machine.specs.declared.try_draft.TryDraft.{TryDraft}
use Rattle.transfer_machine.specs.declared.transfer.TransferView.{TransferView}
use Rattle.transfer_machine.specs.declared.action.Action.TheVariants.{Exchange}
use Rattle.transfer_machine.specs.declared.stage.NextStep.TheVariants.{Try}
use Rattle.transfer_machine.specs.declared.stage.TryStep.TheVariants.{StoreRecordWord, ExchangeState}
use Rattle.transfer_invariant.specs.Memory.{Words, Views, States, Acted, Moved, state_tag}
use Rattle.transfer_invariant.specs.Progress.{in_try, has_announced, heard_announcements, drafted_announcements}
use Rattle.transfer_invariant.specs.Drafts.{RepliesDrafted}
use Rattle.transfer_invariant.specs.Installing.{drafted_state, states_with_drafted}
use Rattle.transfer_invariant.specs.Invariant.{RecordsHold}
use Rattle.transfer_invariant.proofs.Changes.{StateInstalled}
use Rattle.transfer_invariant.proofs.Writes.{with_state_here, with_state_below}
use Rattle.transfer_invariant.proofs.Keeps.{row_fits}
use Rattle.transfer_invariant.proofs.Loaded.{whole_record}
use Rattle.transfer_invariant.proofs.Acts.{stores_word, exchanges_state, keeps_state}
use Rattle.transfer_invariant.proofs.Counts.{stored_follows}
use Rattle.helping_invariant.specs.Parts.{heard, AnnouncementHolds, HearsPresent}
use Rattle.helping_invariant.specs.Holds.{HelpingHolds}
use Rattle.helping_invariant.proofs.Changes.{StatesGrow, AppliesHeard}
use Rattle.helping_invariant.proofs.Pending.{pends_not, drafted_applies}
use Rattle.helping_invariant.proofs.Stored.{misses_announcements}
use Rattle.helping_invariant.proofs.Moves.{stay, store}
use Rattle.helping_invariant.proofs.Turns.{view_same, view_ends_try}
use Rattle.helping_invariant.proofs.Makes.{view_installs}
use Rattle.helping_invariant.proofs.LoadSteps.{past, going, exchange_failed, stored_heard}

-- the reply that is drafted for an applied transfer is the present one
final_reply : (processes : ℕ) (m : Words) (states : States) (o : ℕ) (v w : TransferView) → o < processes → RepliesDrafted processes v
    → IsLoaded processes v.loaded (states (loaded_tag v.loaded)) → o < drafted_announcements processes v.next
    → o < heard_announcements processes v.next → in_try v.next ≡ true → loaded_tag v.loaded ≤ state_tag m
    → is_odd_reply ((states (loaded_tag v.loaded)).reply o) ≡ ((states (loaded_tag v.loaded)).applied o % 2 == 1)
    → HearsPresent processes m states o v w → AnnouncementHolds m states o w
    → ((t : ℕ) → t ≤ state_tag m → (states t).applied o ≡ w.age → (states t).reply o ≡ (states (state_tag m)).reply o)
    → has_announced w.next ≡ true → (states (loaded_tag v.loaded)).applied o ≡ w.age
    → get_or v.draft.replies o 0 ≡ (states (state_tag m)).reply o
final_reply processes m states o v w lo drafts loaded met heard_it trying le parity h a settled pends applied =
    let s = states (loaded_tag v.loaded) in
    let present : heard v o ≡ m (Announcement o) = h.heard_present trying pends applied heard_it in
    let number : tag_of (heard v o) ≡ s.applied o = rw present (a.tag ∙ sym applied) in
    let not_pending = pends_not (heard v o) (s.reply o) (s.applied o) parity (ap (λ k. k % 2) number) in
    drafts.kept o met (rw (loaded.replies o lo) not_pending) ∙ loaded.replies o lo ∙ settled (loaded_tag v.loaded) le applied

-- it stands in the reply's word
drafted_reply : (processes o : ℕ) (draft : TryDraft) → drafted_value processes draft (processes + 2 + o) ≡ get_or draft.replies o 0
drafted_reply processes o draft = grind (arith, nat_tests)

-- so what a view stores there is the present reply
stored_reply : (sizes : Sizes) (m : Words) (views : Views) (states : States) (i : ℕ) (second : Bool) (index o : ℕ) → i < sizes.processes
    → RecordsHold sizes m views states → HelpingHolds sizes m views states → RepliesDrafted sizes.processes (views i)
    → (views i).next ≡ Try second (StoreRecordWord index) → o < sizes.processes → has_announced (views o).next ≡ true
    → (states (loaded_tag (views i).loaded)).applied o ≡ (views o).age → sizes.processes + 2 + o ≡ index
    → drafted_value sizes.processes (views i).draft index ≡ (states (state_tag m)).reply o
stored_reply sizes m views states i second index o li inv h drafts e lo pends applied ei =
    let v = views i in
    let le : loaded_tag v.loaded ≤ state_tag m = (inv.loaded i li).past (rw e refl) in
    let whole = whole_record sizes m states v inv.states_fit (inv.loaded i li) (rw e refl) in
    let parity = h.counts.parities o (loaded_tag v.loaded) lo le in
    rw (← ei) (drafted_reply sizes.processes o v.draft ∙ final_reply sizes.processes m states o v (views o) lo drafts whole (rw e lo)
    (rw e lo) (rw e refl) le parity (h.hears i o li lo) (h.announced o lo) ((h.settled o lo).in_states pends) pends applied)

-- a record word is stored
pub store_step : (sizes : Sizes) (m n : Words) (views after : Views) (states : States) (i : ℕ) (second : Bool) (index : ℕ)
    → i < sizes.processes → RecordsHold sizes m views states → HelpingHolds sizes m views states → RepliesDrafted sizes.processes (views i)
    → (views i).next ≡ Try second (StoreRecordWord index) → drafted_value sizes.processes (views i).draft index < value_limit
    → Acted sizes (try_action sizes (views i) (StoreRecordWord index)) m n
    → Moved i (record (views i) { next = Try second (after_stored sizes index) }) views after → HelpingHolds sizes n after states
store_step sizes m n views after states i second index li inv h drafts e fits a moved =
    let v = views i in
    let value = drafted_value sizes.processes v.draft index in
    let s = stores_word sizes v.next_record index (loaded_tag v.loaded + 1) value m n fits a in
    let replies = λ (o : ℕ) (lo : o < sizes.processes). stored_reply sizes m views states i second index o li inv h drafts e lo in
    let others = misses_announcements sizes _ m n a (λ o d. cc) in
    let stored = store sizes m n views states v.next_record index (loaded_tag v.loaded) value h s others replies in
    let next = after_stored sizes index in
    let x = record v { next = Try second next } in
    let stays = going second (StoreRecordWord index) next v x e refl refl (stored_follows sizes index) refl refl refl refl refl refl in
    view_same sizes n views after states i x li stored (λ o lo has. rw s.state ((inv.loaded o lo).past has)) moved stays
    (rw e (stored_heard sizes sizes.processes index)) refl

-- a state is installed: there is one more
states_grow : (m n : Words) (states : States) (v : TransferView) → state_tag n ≡ state_tag m + 1
    → StatesGrow m n states (states_with_drafted m v states) (drafted_state (states (state_tag m)) v)
states_grow m n states v number =
    let next = drafted_state (states (state_tag m)) v in
    record {
      number = number;
      here = with_state_here (state_tag m + 1) next states;
      below = with_state_below (state_tag m) next states;
    }

-- and it applies what its view heard, which loaded the present one
installed_applies : (sizes : Sizes) (m : Words) (views : Views) (states : States) (i : ℕ) (second : Bool) → i < sizes.processes
    → RecordsHold sizes m views states → HelpingHolds sizes m views states → RepliesDrafted sizes.processes (views i)
    → (views i).next ≡ Try second ExchangeState → loaded_tag (views i).loaded ≡ state_tag m
    → AppliesHeard sizes.processes (states (state_tag m)) (drafted_state (states (state_tag m)) (views i)) (views i)
installed_applies sizes m views states i second li inv h drafts e now =
    let v = views i in
    let whole = whole_record sizes m states v inv.states_fit (inv.loaded i li) (rw e refl) in
    let parities = λ (o : ℕ) (lo : o < sizes.processes). h.counts.parities o (state_tag m) lo (omega arith) in
    drafted_applies sizes (states (state_tag m)) second v e (rw now at whole) drafts parities

-- the state is exchanged, or not
pub exchange_step : (sizes : Sizes) (m n : Words) (views after : Views) (states : States) (i : ℕ) (second t : Bool) → sizes.processes ≤ 32
    → i < sizes.processes → RecordsHold sizes m views states → HelpingHolds sizes m views states → RepliesDrafted sizes.processes (views i)
    → (in_try (views i).next ≡ true → (views i).installed ≤ (views i).first_loaded)
    → (views i).next ≡ Try second ExchangeState → (m State == (views i).loaded.state) ≡ t
    → Acted sizes (Exchange State (views i).loaded.state (next_state (views i))) m n
    → Moved i (if t then installed (views i) else try_ended second (views i)) views after
    → HelpingHolds sizes n after (if t then states_with_drafted m (views i) states else states)
unfolding state_tag
exchange_step sizes m n views after states i second true few li inv h drafts none e test a moved =
    let v = views i in
    let now : loaded_tag v.loaded ≡ state_tag m = sym (ap tag_of (eqb-true (m State) v.loaded.state test)) in
    let row = row_fits sizes m i v few li (inv.own i li) in
    let made = exchanges_state sizes v.loaded.state (loaded_tag v.loaded + 1) v.next_record m n row test a in
    let there : StateInstalled sizes m n (state_tag m + 1) v.next_record = rw now at made in
    let others = misses_announcements sizes (Exchange State v.loaded.state (next_state v)) m n a (λ o d. cc) in
    let grows = states_grow m n states v there.state in
    let applies = installed_applies sizes m views states i second li inv h drafts e now in
    view_installs sizes m n views after states _ _ i second li h (past sizes m views states inv)
    (λ o lo. (inv.own o lo).installed) inv.tags_below e now there others grows
    applies moved
exchange_step sizes m n views after states i second false few li inv h drafts none e test a moved =
    let v = views i in
    let later = exchange_failed sizes m states v (inv.loaded i li) (rw e refl) (eqb-false (m State) v.loaded.state test) in
    let others = misses_announcements sizes (Exchange State v.loaded.state (next_state v)) m n a (λ o d. cc) in
    stay sizes m n after states
    (view_ends_try sizes m views after states i second ExchangeState li h (past sizes m views states inv) e refl
    (none (rw e refl)) later moved)
    (keeps_state sizes v.loaded.state (next_state v) m n test a) others
