-- what the invariant gives for the next step of a view
use Rattle.std.proofs.Common.{◌≡◌, Bool, ℕ, ◌+◌, ◌-◌, ◌*◌, ◌<◌, ◌≤◌, true, refl, arith, get_or}
use Rattle.word_layout.specs.Sizes.{Sizes, IsShape, blocks}
use Rattle.word_layout.specs.Names.{records, record_words}
use Rattle.word_layout.specs.Packing.{value_of, value_limit, tag_limit}
use Rattle.word_layout.proofs.Ages.{age_is_tag}
use Rattle.word_layout.specs.declared.name.WordName.TheVariants.{Slot}
use Rattle.transfer_machine.specs.Loads.{loaded_tag, loaded_base, overlay_length}
use Rattle.transfer_machine.specs.NextStates.{IsLoaded}
use Rattle.transfer_machine.specs.Tries.{drafted_value}
use Rattle.transfer_machine.specs.Machine.{action_of, CanActAt, CanMeetAt, CanActInTry, CanMeetInTry}
use Rattle.transfer_machine.specs.Words.{name_of}
use Rattle.transfer_machine.specs.declared.stage.NextStep.{NextStep}
use Rattle.transfer_machine.specs.declared.stage.NextStep.TheVariants.{Rest, Announce, Try, LoadFinalState, LoadReply}
use Rattle.transfer_machine.specs.declared.stage.TryStep.{TryStep}
use Rattle.transfer_machine.specs.declared.stage.TryStep.TheVariants.{LoadState, LoadRecordWord, LoadCoveredSlot, ExchangeSlot}
use Rattle.transfer_machine.specs.declared.stage.TryStep.TheVariants.{LoadAnnouncement, LoadPoppedSlot, StoreRecordWord, ExchangeState}
use Rattle.transfer_invariant.specs.Memory.{Words, Views, States, state_tag, slot_value}
use Rattle.transfer_invariant.specs.Progress.{has_record, has_loaded}
use Rattle.transfer_invariant.specs.Invariant.{Invariant}
use Rattle.transfer_invariant.proofs.Loaded.{loaded_is}
use Rattle.transfer_invariant.proofs.Stable.{next_low}
use Rattle.draft_invariant.specs.Holding.{DraftsHold, DraftPremises}
use Rattle.draft_invariant.specs.Laws.{CoversWithin}
use Rattle.draft_invariant.proofs.Wishes.{LoadedFits, some_block, few_batches, wish_fits}
use Rattle.draft_invariant.proofs.Numbers.{IsSlotBelow, loaded_fits, popped_below, can_apply, drafted_value_lt}
use Rattle.draft_invariant.proofs.Drafts.{Meets}
use Rattle.draft_invariant.proofs.KeptDrafts.{DraftChanges}

module _ (sizes : Sizes) (words : Words) (views : Views) (states : States) (i : ℕ) (shape : IsShape sizes) (li : i < sizes.processes)
    (inv : Invariant sizes words views states) (drafts : DraftsHold sizes words views states) where
  -- the loaded record
  pub view_is : has_record (views i).next ≡ true → IsLoaded sizes.processes (views i).loaded (states (loaded_tag (views i).loaded))
  view_is has = loaded_is sizes words states (views i) inv.records.states_fit (inv.records.loaded i li) has

  -- its numbers are in range
  pub view_fits : has_record (views i).next ≡ true → LoadedFits sizes (views i).loaded
  view_fits has = loaded_fits sizes words states (views i) inv.records.states_fit (inv.records.loaded i li) has

  -- and the drafted base lies within the slots
  pub base_within : has_record (views i).next ≡ true → (views i).draft.base ≤ sizes.batches
  base_within has = let fits = view_fits has in let low = (drafts.each i li).fits has in omega (arith, fits.within)

  -- the slot of a taken batch
  pub taken_slot : (second : Bool) (process : ℕ) → (views i).next ≡ Try second (LoadPoppedSlot process)
      → IsSlotBelow (views i).loaded (views i).draft
  taken_slot second process e =
      popped_below sizes.processes (views i).loaded process (get_or (views i).loaded.announcements process 0) (views i).draft
      (rw e at ((drafts.pops i li).popping (rw e refl)))

  -- what is stored
  pub stored_fits : (second : Bool) (index : ℕ) → (views i).next ≡ Try second (StoreRecordWord index)
      → drafted_value sizes.processes (views i).draft index < value_limit
  stored_fits second index e =
      let view = drafts.each i li in
      let over : (views i).draft.overlay ≤ sizes.processes = rw e at (inv.drafts i li) in
      drafted_value_lt sizes (views i).draft index (few_batches sizes shape) shape.few_blocks (base_within (rw e refl))
      (omega (arith, shape.few_processes)) view.heads.heads view.heads.replies

  module _ (given : DraftPremises sizes words states (views i)) where
    -- the word that is met
    popped_block : (second : Bool) (process : ℕ) → (views i).next ≡ Try second (LoadPoppedSlot process)
        → value_of (words (Slot ((views i).draft.base - 1))) < blocks sizes
    unfolding slot_value
    popped_block second process e =
        let slot = taken_slot second process e in
        let low = base_within (rw e refl) in
        given.slots ((views i).draft.base - 1) (omega (arith, slot.some))

    popped_content : (second : Bool) (process : ℕ) → (views i).next ≡ Try second (LoadPoppedSlot process)
        → loaded_tag (views i).loaded ≡ state_tag words
        → value_of (words (Slot ((views i).draft.base - 1))) ≡ (states (state_tag words)).content ((views i).draft.base - 1)
    unfolding slot_value
    popped_content second process e now =
        let slot = taken_slot second process e in
        let base : loaded_base (views i).loaded ≡ (states (loaded_tag (views i).loaded)).base = (view_is (rw e refl)).base in
        let here : loaded_base (views i).loaded ≡ (states (state_tag words)).base = rw now at base in
        given.below ((views i).draft.base - 1) (omega (arith, slot.below))

    -- what a step needs of the shape, of the loaded record and of the word that it meets
    pub view_meets : Meets sizes (views i) (words (name_of (action_of sizes (views i))))
    view_meets = record {
      some = omega arith;
      few = shape.few_processes;
      block = some_block sizes shape;
      few_blocks = shape.few_blocks;
      fits = view_fits;
      overlay = inv.drafts i li;
      heard = λ second process e. rw e (drafts.announcements process (rw e at (drafts.each i li).among));
      popped = λ second process e. rw e (popped_block second process e);
    }

    -- the slot that a take loads holds the present state's content, where the loaded state is the present one
    pub view_pops : (second : Bool) (process : ℕ) → (views i).next ≡ Try second (LoadPoppedSlot process)
        → loaded_tag (views i).loaded ≡ state_tag words
        → value_of (words (name_of (action_of sizes (views i)))) ≡ (states (state_tag words)).content ((views i).draft.base - 1)
    view_pops second process e now = rw e (popped_content second process e now)

    -- an announcement can be applied
    heard_can : (second : Bool) (process : ℕ) → (views i).next ≡ Try second (LoadAnnouncement process)
        → CanMeetInTry sizes (views i) (words (name_of (action_of sizes (views i)))) (LoadAnnouncement process)
    heard_can second process e =
        let over : (views i).draft.overlay ≤ process = rw e at (inv.drafts i li) in
        can_apply sizes (views i).loaded process _ 0 (views i).draft shape.few_processes shape.few_blocks
        (rw e at (drafts.each i li).among) over
        (view_fits (rw e refl)) (some_block sizes shape) (drafts.each i li).heads.heads ((drafts.each i li).fits (rw e refl))

    popped_act : (second : Bool) (process : ℕ) → (views i).next ≡ Try second (LoadPoppedSlot process)
        → CanActInTry sizes (views i) (LoadPoppedSlot process)
    popped_act second process e = (rw e at (drafts.each i li).among, (taken_slot second process e).some, base_within (rw e refl))

    popped_can : (second : Bool) (process : ℕ) → (views i).next ≡ Try second (LoadPoppedSlot process)
        → CanMeetInTry sizes (views i) (words (name_of (action_of sizes (views i)))) (LoadPoppedSlot process)
    popped_can second process e =
        let over : (views i).draft.overlay ≤ process = rw e at (inv.drafts i li) in
        can_apply sizes (views i).loaded process _ _ (views i).draft shape.few_processes shape.few_blocks
        (rw e at (drafts.each i li).among) over
        (view_fits (rw e refl)) (view_meets.popped second process e) (drafts.each i li).heads.heads ((drafts.each i li).fits (rw e refl))

    -- the numbers that the next step names are in range, and an announcement that it meets can be applied
    pub view_changes : DraftChanges sizes (views i) (words (name_of (action_of sizes (views i))))
    view_changes = record {
      row = λ second index e. (inv.records.loaded i li).row (rw e refl);
      index = λ second index e. rw e at (inv.records.own i li).index;
      heard = heard_can;
      popped_act = popped_act;
      popped = popped_can;
    }

    -- the step can be made
    can_meet_in_try : (second : Bool) (s : TryStep) → (views i).next ≡ Try second s
        → CanMeetInTry sizes (views i) (words (name_of (action_of sizes (views i)))) s
    can_meet_in_try second LoadState e = tt
    can_meet_in_try second (LoadRecordWord index) e = tt
    can_meet_in_try second (LoadCoveredSlot offset) e = tt
    can_meet_in_try second (ExchangeSlot offset) e = tt
    can_meet_in_try second (LoadAnnouncement process) e = heard_can second process e
    can_meet_in_try second (LoadPoppedSlot process) e = popped_can second process e
    can_meet_in_try second (StoreRecordWord index) e = tt
    can_meet_in_try second ExchangeState e = tt

    -- whatever its next step is, a view can meet the word there
    pub can_meet : (s : NextStep) → (views i).next ≡ s → CanMeetAt sizes (views i) (words (name_of (action_of sizes (views i)))) s
    can_meet Rest e = tt
    can_meet Announce e = tt
    can_meet (Try second step) e = can_meet_in_try second step e
    can_meet LoadFinalState e = tt
    can_meet LoadReply e = tt

    module _ (covers : CoversWithin (views i)) (few : state_tag words + 1 < tag_limit) where
      tag_low : has_loaded (views i).next ≡ true → loaded_tag (views i).loaded + 1 < tag_limit
      tag_low has = let past = (inv.records.loaded i li).past has in omega arith

      row_low : (views i).next_record < records sizes
      row_low = next_low sizes.processes i (views i).next_record li (inv.records.own i li).next

      covered_act : (offset : ℕ) → has_record (views i).next ≡ true → offset < overlay_length (views i).loaded
          → CanActInTry sizes (views i) (LoadCoveredSlot offset)
      covered_act offset has low =
          let fits = view_fits has in
          (omega (arith, fits.few, shape.few_processes), omega (arith, fits.within))

      can_act_in_try : (second : Bool) (s : TryStep) → (views i).next ≡ Try second s → CanActInTry sizes (views i) s
      can_act_in_try second LoadState e = tt
      can_act_in_try second (LoadRecordWord index) e = ((inv.records.loaded i li).row (rw e refl), rw e at (inv.records.own i li).index)
      can_act_in_try second (LoadCoveredSlot offset) e = covered_act offset (rw e refl) (covers.load second offset e)
      can_act_in_try second (ExchangeSlot offset) e = covered_act offset (rw e refl) (covers.exchange second offset e)
      can_act_in_try second (LoadAnnouncement process) e = rw e at (drafts.each i li).among
      can_act_in_try second (LoadPoppedSlot process) e = popped_act second process e
      can_act_in_try second (StoreRecordWord index) e =
          let over : (views i).draft.overlay ≤ sizes.processes = rw e at (inv.drafts i li) in
          let low : index < record_words sizes = rw e at (inv.records.own i li).index in
          (row_low, low, omega (arith, shape.few_processes), tag_low (rw e refl), stored_fits second index e)
      can_act_in_try second ExchangeState e = (row_low, tag_low (rw e refl))

      -- and it can make that step
      pub can_act : (s : NextStep) → (views i).next ≡ s → CanActAt sizes (views i) s
      can_act Rest e = tt
      can_act Announce e = (
        given.number,
        omega (arith, given.age e, age_is_tag sizes shape),
        wish_fits sizes (views i).wish shape.few_blocks (given.fits_wish e),
      )
      can_act (Try second step) e = can_act_in_try second step e
      can_act LoadFinalState e = tt
      can_act LoadReply e = ((inv.records.loaded i li).row (rw e refl), given.number)
