-- what the part gives
use Rattle.std.proofs.Common.{refl}
use Rattle.draft_invariant.specs.Laws.{StepsCanBeMade, StoredWordsFit, DraftedIsNext}
use Rattle.draft_invariant.specs.Laws.{DraftedHeadsAreBlocks, DraftedBaseIsLow, DraftsGiveWrites}
use Rattle.draft_invariant.proofs.Steps.{can_act, can_meet, stored_fits}
use Rattle.draft_invariant.proofs.NextState.{installed_is_next}

-- every view can make its next step, with all numbers in range
pub steps_can_be_made : StepsCanBeMade
steps_can_be_made sizes words views states i shape li inv drafts given covers few = (
  can_act sizes words views states i shape li inv drafts given covers few (views i).next refl,
  can_meet sizes words views states i shape li inv drafts given (views i).next refl,
)

-- what a view stores in its next record fits a value
pub stored_words_fit : StoredWordsFit
stored_words_fit sizes words views states i second index shape li inv drafts e =
    stored_fits sizes words views states i shape li inv drafts second index e

-- a state that is installed is what the loaded announcements make of the present one
pub drafted_is_next : DraftedIsNext
drafted_is_next = installed_is_next

-- the heads that a view drafts are blocks
pub drafted_heads_are_blocks : DraftedHeadsAreBlocks
drafted_heads_are_blocks sizes words views states i k li drafts = (drafts.each i li).heads.heads k

-- the drafted base is at most the loaded state's height when a draft is about to be installed
pub drafted_base_is_low : DraftedBaseIsLow
drafted_base_is_low sizes words views states i second li drafts e = (drafts.each i li).fits (rw e refl)

-- what a view writes fits, as long as an installed draft lies in the slots
pub writes_fit : DraftsGiveWrites
writes_fit sizes words views states i shape li inv drafts within = record {
  store = λ second index e. stored_words_fit sizes words views states i second index shape li inv drafts e;
  install = λ second e same. record {
    within = within second e same;
    heads = λ k lt. drafted_heads_are_blocks sizes words views states i k li drafts;
  };
}
