-- the load of an announcement is the machine's next step, and what the invariant says of the word
use Rattle.std.proofs.Common.{◌≡◌, ℕ, ◌+◌, ◌<◌, ◌≤◌, ◌==◌, Bool, true, false, List, length, get_or-set_same}
use Rattle.std.proofs.Common.{refl, sym, ap, ◌∙◌, subst, arith}
use Rattle.std.specs.Prelude.{if◌then◌else◌, slice_index}
use Rattle.word_layout.specs.Sizes.{Sizes}
use Rattle.word_layout.specs.Names.{record_words, word_at}
use Rattle.word_layout.specs.declared.name.WordName.TheVariants.{Announcement}
use Rattle.transfer_machine.specs.Loads.{loaded_tag, loaded_reply}
use Rattle.transfer_machine.specs.Machine.{action_at, met_at, met_of, after_heard, CanActAt}
use Rattle.transfer_machine.specs.Tries.{is_pending, pops_slot}
use Rattle.transfer_machine.specs.declared.action.Action.TheVariants.{Load}
use Rattle.transfer_machine.specs.declared.stage.NextStep.TheVariants.{Try}
use Rattle.transfer_machine.specs.declared.stage.TryStep.{TryStep}
use Rattle.transfer_machine.specs.declared.stage.TryStep.TheVariants.{LoadAnnouncement, LoadPoppedSlot, StoreRecordWord}
use Rattle.transfer_machine.specs.declared.transfer.TransferView.{TransferView}
use Rattle.transfer_invariant.specs.Memory.{Words, States, state_tag}
use Rattle.transfer_invariant.specs.Progress.{in_try, has_loaded_state, loaded_words, loaded_in_try, heard_announcements, heard_in_try}
use Rattle.transfer_invariant.specs.Records.{LoadedState}
use Rattle.transfer_invariant.proofs.Loaded.{value_reply}
use Rattle.helping_invariant.specs.Parts.{AppliedRises, HearsPresent}
use Rattle.helping_invariant.proofs.Pending.{pends_differs}
use Rattle.pool_machine.specs.declared.view.ProcessView.{ProcessView}
use Rattle.interleaving_core.specs.Steps.{next_action}
use Rattle.pool_table.specs.declared.about.About.{About}
use Rattle.pool_table.specs.Minds.{Mind, number_of}
use Rattle.pool_table.specs.Turns.{turning}
use Rattle.pool_table.specs.Views.{SeatView}
use Rattle.pool_table.specs.Steps.{CanStep, Stepped}
use Rattle.pool_table.specs.Transfers.{Agrees, transfer_about}
use Rattle.pool_table.proofs.Transfers.{DueOn, due_there, transfer_can_act, transfer_acts_next, transfer_steps}
use Rattle.pool_table.proofs.Turns.{seat_of}
use Rattle.announce.specs.Heard.{LoadsAnnouncement, IsPresentWhile}

own_agrees : (a : About) (v : SeatView) (process : ℕ) → LoadsAnnouncement a v process → Agrees a v (transfer_about a v)
own_agrees a v process l = record { same = refl; moves = l.moves }

-- the load of an announcement that is due is the machine's next step
pub load_is_next : (sizes : Sizes) (a : About) (v : SeatView) (process : ℕ) → LoadsAnnouncement a v process
    → Load (Announcement process) ≡ next_action sizes (turning a v.mind.view)
load_is_next sizes a v process l =
    let t = transfer_about a v in
    transfer_acts_next sizes a v t (Load (Announcement process)) (own_agrees a v process l) (sym (ap (action_at sizes t) l.next))

-- once it is loaded, a try has heard the announcement of that process
pub record Heard (sizes : Sizes) (u : TransferView) (process word : ℕ) : Type 0 where
  pub tries : in_try u.next ≡ true
  pub all : loaded_words (record_words sizes) u.next ≡ record_words sizes
  pub heard : process < heard_announcements sizes.processes u.next
  pub here : slice_index u.loaded.announcements process ≡ word

-- at the step after it
pub record HeardAt (sizes : Sizes) (process : ℕ) (s : TryStep) : Type 0 where
  pub loaded : has_loaded_state s ≡ true
  pub all : loaded_in_try (record_words sizes) s ≡ record_words sizes
  pub heard : process < heard_in_try sizes.processes s

after_popping : (sizes : Sizes) (process : ℕ) → HeardAt sizes process (LoadPoppedSlot process)
after_popping sizes process = record { loaded = refl; all = refl; heard = omega arith }

after_hearing_by : (sizes : Sizes) (process : ℕ) (last : Bool) → process < sizes.processes
    → HeardAt sizes process (if last then StoreRecordWord 0 else LoadAnnouncement (process + 1))
after_hearing_by sizes process true lt = record { loaded = refl; all = refl; heard = lt }
after_hearing_by sizes process false lt = record { loaded = refl; all = refl; heard = omega arith }

heard_by : (sizes : Sizes) (pops second : Bool) (process word : ℕ) (u w : TransferView) (s : TryStep) → process < sizes.processes
    → u.next ≡ Try second (LoadPoppedSlot process) → w.next ≡ Try second s → HeardAt sizes process s
    → slice_index u.loaded.announcements process ≡ word → slice_index w.loaded.announcements process ≡ word
    → Heard sizes (if pops then u else w) process word
heard_by sizes true second process word u w s lt pop go h here there =
    let at = after_popping sizes process in
    record { tries = ap in_try pop; all = ap (loaded_words (record_words sizes)) pop; heard = rw pop at.heard; here = here }
heard_by sizes false second process word u w s lt pop go h here there = record {
  tries = ap in_try go ∙ h.loaded;
  all = ap (loaded_words (record_words sizes)) go ∙ h.all;
  heard = rw go h.heard;
  here = there;
}

heard_met : (sizes : Sizes) (t : TransferView) (second : Bool) (process word : ℕ) → t.next ≡ Try second (LoadAnnouncement process)
    → process < sizes.processes → process < length t.loaded.announcements → Heard sizes (met_of sizes t word) process word
heard_met sizes t second process word next lt room =
    let here = get_or-set_same t.loaded.announcements process word 0 room in
    subst (λ s. Heard sizes (met_at sizes t word s) process word) (sym next)
    (heard_by sizes (pops_slot sizes.processes t.loaded process word t.draft) second process word _ _ (after_heard sizes process) lt
    refl refl (after_hearing_by sizes process (process + 1 == sizes.processes) lt) here here)

-- the room of the announcements, before the load
due_room : (sizes : Sizes) (words : List ℕ) (v : ProcessView) → DueOn sizes words v → length v.transfer.loaded.announcements ≡ 32
due_room sizes words v d =
    let (ghosts, holds) = d.due.table.meets in
    let announced = holds.stack.helping.announced d.process d.due.table.low in
    subst (λ (w : ProcessView). length w.transfer.loaded.announcements ≡ 32) d.here announced.room

-- a heard announcement that pends is the present one while the state is the loaded one
heard_is_present : (sizes : Sizes) (words : Words) (states : States) (o word : ℕ) (w v : TransferView)
    → LoadedState sizes words states w → HearsPresent sizes.processes words states o w v → AppliedRises sizes words states
    → Heard sizes w o word → o < sizes.processes → is_pending word (loaded_reply sizes.processes w.loaded o) ≡ true
    → state_tag words ≡ loaded_tag w.loaded → words (Announcement o) ≡ word
heard_is_present sizes words states o word w v loaded hears counts h lt pends now =
    let tag = state_tag words in
    let index = sizes.processes + 2 + o in
    let within : index < record_words sizes = omega arith in
    let reply : loaded_reply sizes.processes w.loaded o ≡ (states tag).reply o =
    loaded.loaded index (rw h.all within)
    ∙ (value_reply sizes.processes o (states (loaded_tag w.loaded)) ∙ ap (λ m. (states m).reply o) (sym now)) in
    let parity = counts.parities o tag lt (omega arith) in
    let differs = pends_differs word ((states tag).reply o) ((states tag).applied o) parity (rw reply at pends) in
    let present = hears.present h.tries (sym now) h.heard (rw h.here differs) in
    sym present ∙ h.here

-- the load of an announcement, as it happened
module _ (sizes : Sizes) (a : About) (v x : SeatView) (process word : ℕ) (c : CanStep sizes a v)
    (l : LoadsAnnouncement a v process) (s : Stepped a v word x) where
  same : x.sizes ≡ sizes
  same = ap (λ (z : SeatView). z.sizes) s.stays ∙ c.shape

  low : process < sizes.processes
  low = let t = transfer_about a v in subst (CanActAt sizes t) l.next (transfer_can_act sizes a v t c (own_agrees a v process l))

  heard : Heard x.sizes x.mind.view.transfer process word
  heard =
      let t = transfer_about a v in
      let d = due_there sizes a v c in
      let room = due_room v.sizes c.among.words (turning a v.mind.view) d in
      let few : sizes.processes ≤ 32 = subst (λ (z : Sizes). z.processes ≤ 32) c.shape d.due.table.shape.few_processes in
      let mirrors = transfer_steps sizes a v x t (met_of sizes t word) word c (own_agrees a v process l) s refl in
      let met = heard_met sizes t l.second process word l.next low (omega (arith, low, few, room)) in
      subst (λ z. Heard z x.mind.view.transfer process word) (sym same) (subst (λ u. Heard sizes u process word) (sym mirrors) met)

  -- the announcement that was heard is the present one, as long as it pends in the state that was loaded
  pub heard_now_present : IsPresentWhile x process word
  heard_now_present pends words views place h at ghosts holds now =
      let process_seat : x.of_process ≡ true = ap (λ (z : SeatView). z.of_process) s.stays ∙ c.of_process in
      let seat = seat_of words views place x h at process_seat in
      let lt : process < x.sizes.processes = subst (λ (z : Sizes). process < z.processes) (sym same) low in
      let stack = holds.stack in
      let loaded = stack.transfers.records.loaded (number_of x.mind) seat.low in
      let hears = stack.helping.hears (number_of x.mind) process seat.low lt in
      let words_so = word_at x.sizes words in
      let mine = subst (λ (m : Mind). LoadedState x.sizes words_so ghosts.states m.view.transfer) seat.here loaded in
      let hears_so = subst (λ (m : Mind). HearsPresent x.sizes.processes words_so ghosts.states process m.view.transfer
      (h.minds process).view.transfer) seat.here hears in
      heard_is_present x.sizes words_so ghosts.states process word x.mind.view.transfer (h.minds process).view.transfer mine hears_so
      stack.helping.counts heard lt pends now
