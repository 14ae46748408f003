-- words that the invariant doesn't speak of may change
use Rattle.std.proofs.Common.{◌≡◌, true, refl, ap, arith}
use Rattle.word_layout.specs.Sizes.{Sizes}
use Rattle.word_layout.specs.Names.{InRange}
use Rattle.word_layout.specs.Packing.{tag_of, value_of}
use Rattle.word_layout.specs.declared.name.WordName.{WordName}
use Rattle.word_layout.specs.declared.name.WordName.TheVariants.{State, Announcement, RecordWord, Slot}
use Rattle.transfer_invariant.specs.Memory.{Words, Views, States, state_tag, current_record, word_tag, word_value, slot_tag, slot_value}
use Rattle.transfer_invariant.specs.Memory.{is_stack_word}
use Rattle.transfer_invariant.specs.Tags.{TagsHold}
use Rattle.transfer_invariant.specs.Invariant.{Invariant}
use Rattle.transfer_invariant.proofs.Changes.{RecordsStay}
use Rattle.transfer_invariant.proofs.Installs.{order_stays}
use Rattle.transfer_invariant.proofs.Steps.{stay}
use Rattle.slot_invariant.specs.Slots.{SlotsInvariant}
use Rattle.slot_invariant.proofs.Changes.{SlotsStay}
use Rattle.slot_invariant.proofs.Stable.{stay_hold, stay_known}
use Rattle.slot_invariant.proofs.Steps.{view_covers}
use Rattle.helping_invariant.proofs.Changes.{AnnouncementsStay}
use Rattle.helping_invariant.proofs.Moves as moves
use Rattle.draft_invariant.specs.Holding.{DraftsHold}
use Rattle.draft_invariant.proofs.Acts.{pops_stay}
use Rattle.stack_invariant.specs.Laws.{OtherWordsKeepStack}
use Rattle.stack_invariant.proofs.Following.{follow_stays}

-- all words that the invariant speaks of stay
abbrev pub StackWordsStay : Sizes → Words → Words → Type 0
StackWordsStay sizes old new = (name : WordName) → InRange sizes name → is_stack_word name ≡ true → new name ≡ old name

-- so the state and all record words stay
pub records_stay : (sizes : Sizes) (old new : Words) → StackWordsStay sizes old new → RecordsStay sizes old new
unfolding state_tag current_record word_tag word_value
records_stay sizes old new same = record {
  state = ap tag_of (same State tt refl);
  current = ap value_of (same State tt refl);
  tags = λ row index lr li. ap tag_of (same (RecordWord row index) (lr, li) refl);
  values = λ row index lr li. ap value_of (same (RecordWord row index) (lr, li) refl);
}

slots_stay : (sizes : Sizes) (old new : Words) → StackWordsStay sizes old new → SlotsStay sizes old new
unfolding slot_tag slot_value
slots_stay sizes old new same = record {
  tags = λ s ls. ap tag_of (same (Slot s) ls refl);
  values = λ s ls. ap value_of (same (Slot s) ls refl);
}

announcements_stay : (sizes : Sizes) (old new : Words) → StackWordsStay sizes old new → AnnouncementsStay sizes old new
announcements_stay sizes old new same = record { each = λ o lo. same (Announcement o) lo refl }

-- and so does each part
tags_same : (sizes : Sizes) (old new : Words) (views : Views) → state_tag new ≡ state_tag old → TagsHold sizes old views
    → TagsHold sizes new views
tags_same sizes old new views e h = record {
  count = rw e h.count;
  order = λ i li. order_stays old new (views i) (h.order i li) (omega (arith, e));
}

transfers_same : (sizes : Sizes) (old new : Words) (views : Views) (states : States) → RecordsStay sizes old new
    → Invariant sizes old views states → Invariant sizes new views states
transfers_same sizes old new views states r inv = record {
  records = stay sizes old new views states inv.records r;
  drafts = inv.drafts;
  tags = tags_same sizes old new views r.state inv.tags;
}

slots_same : (sizes : Sizes) (old new : Words) (views : Views) (states : States) → RecordsStay sizes old new → SlotsStay sizes old new
    → Invariant sizes old views states
    → SlotsInvariant sizes old views states → SlotsInvariant sizes new views states
slots_same sizes old new views states r s inv h = record {
  hold = stay_hold sizes old new states inv.records.states_fit h.hold s r.state;
  known = λ i li. stay_known sizes old new states (views i) (view_covers sizes old views states i inv.records li) (h.known i li) s r.state;
}

drafts_same : (sizes : Sizes) (old new : Words) (views : Views) (states : States) → state_tag new ≡ state_tag old
    → AnnouncementsStay sizes old new → DraftsHold sizes old views states
    → DraftsHold sizes new views states
drafts_same sizes old new views states e a h = record {
  announcements = λ o lo. rw (a.each o lo) (h.announcements o lo);
  each = h.each;
  loaded = h.loaded;
  pops = λ i li. pops_stay sizes.processes old new states (views i) e (h.pops i li);
}

-- words that keep all that the shared stack stands in keep its invariant
pub other_words_keep : OtherWordsKeepStack
other_words_keep sizes words new views states h same =
    let r = records_stay sizes words new same in
    let a = announcements_stay sizes words new same in
    record {
      transfers = transfers_same sizes words new views states r h.transfers;
      slots = slots_same sizes words new views states r (slots_stay sizes words new same) h.transfers h.slots;
      helping = moves.stay sizes words new views states h.helping r a;
      drafts = drafts_same sizes words new views states r.state a h.drafts;
      follow = follow_stays sizes words new states r.state h.follow;
      loads = h.loads;
      answers = rw r.state h.answers;
    }
