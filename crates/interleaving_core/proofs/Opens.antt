-- the opening meets the invariant, and the words say the content of the stack
use Rattle.std.proofs.Common.{◌≡◌, ℕ, ◌<◌, List, [], length, refl, ap, arith}
use Rattle.std.specs.Prelude.{None}
use Rattle.word_layout.specs.Sizes.{Sizes, IsShape, transfer_bound, limits_of}
use Rattle.word_layout.specs.Names.{records, table_words, word_at}
use Rattle.word_layout.specs.declared.name.WordName.TheVariants.{Next}
use Rattle.pool_model.specs.declared.entry.Entry.{Entry}
use Rattle.transfer_machine.specs.Opening.{AreOpening, opening_base, opening_slot}
use Rattle.pool_machine.specs.Pools.{opening_view}
use Rattle.transfer_machine.specs.States.{StackState}
use Rattle.transfer_machine.specs.Words as table
use Rattle.transfer_invariant.specs.Memory.{Words, States, state_tag, current_record}
use Rattle.transfer_invariant.specs.Records.{StateFits, CurrentRecord}
use Rattle.transfer_invariant.specs.OpeningState.{opening_state}
use Rattle.stack_invariant.specs.Gives.{present}
use Rattle.stack_invariant.specs.Shown.{TableShows}
use Rattle.stack_invariant.proofs.Tables.{tables_show}
use Rattle.stack_invariant.proofs.Keeps.{opening_meets}
use Rattle.batch_invariant.specs.Batches.{ProcessViews}
use Rattle.chain_invariant.proofs.Opened.{opening_chains}
use Rattle.history_invariant.specs.Ledger.{Ledger, opening_ledger}
use Rattle.history_invariant.proofs.Holding as histories
use Rattle.call_invariant.proofs.Alone.{opening_calls}
use Rattle.interleaving_core.proofs.Joins.{transfers}
use Rattle.interleaving_core.specs.Content.{SaysContent}
use Rattle.interleaving_core.specs.EmptyTakes.{TakesHadFew}
use Rattle.interleaving_core.specs.Invariant.{Ghosts, MeetsInvariant, KnowsOfNothing, held_in}

-- the opening
opened_height : (sizes : Sizes) → (opening_state sizes).height ≡ opening_base sizes
unfolding opening_state
opened_height sizes = refl

opened_content : (sizes : Sizes) (k : ℕ) → (opening_state sizes).content k ≡ opening_slot sizes k
unfolding opening_state
opened_content sizes k = refl

-- what proofs know at the opening: the state of the opening, the ledgers of the opening, and no data word
abbrev pub opening_ghosts : Sizes → Ghosts
opening_ghosts sizes = record {
  states = λ m. opening_state sizes;
  ledgers = λ i. opening_ledger sizes.length (transfer_bound sizes) sizes.quantum;
  known = λ i block index. None;
}

knows_opening : (s : StackState) (sizes : Sizes) (i : ℕ) (ledger : Ledger) → KnowsOfNothing s i (opening_view sizes i).transfer ledger
knows_opening s sizes i ledger announced = absurd (grind arith)

-- no take was made
few_opening : (sizes : Sizes) (i : ℕ)
    → TakesHadFew (limits_of sizes) [] ((opening_ghosts sizes).ledgers i) (opening_view sizes i).pool.plan
few_opening sizes i = record { pending = λ f. absurd (grind arith); dry = λ d. absurd (grind arith) }

-- the opening's words and views meet the invariant with no history
pub opening_holds : (sizes : Sizes) (words : List ℕ) (views : ProcessViews) → IsShape sizes → AreOpening sizes words
    → ((i : ℕ) → i < sizes.processes → views i ≡ opening_view sizes i)
    → MeetsInvariant sizes words views []
opening_holds sizes words views shape opening seats = (
  opening_ghosts sizes,
  record {
    stack = opening_meets sizes (word_at sizes words) (transfers views) shape opening.each (λ i li. ap (λ v. v.transfer) (seats i li));
    chains = opening_chains sizes (word_at sizes words) (opening_state sizes) views (held_in (opening_ghosts sizes).ledgers) shape
        (λ b lt. opening.each (Next b) lt) (opened_height sizes) (λ k lt. opened_content sizes k) seats (λ i li. refl);
    pools = λ i li. rw (seats i li) (opening_calls sizes i);
    entries = histories.opening_holds (limits_of sizes) (transfer_bound sizes) sizes.quantum (opening_ghosts sizes).ledgers (λ i li. refl);
    empties =
        λ i li. rw (seats i li)
        (knows_opening (opening_state sizes) sizes i (opening_ledger sizes.length (transfer_bound sizes) sizes.quantum));
    few = λ i li. rw (seats i li) (few_opening sizes i);
    names = λ i li. rw (seats i li) tt;
    data_words =
        λ i li. record {
          holds = λ block index value e. absurd (grind arith);
          within = λ block index value e. absurd (grind arith);
          value = λ block index value e. absurd (grind arith);
        };
  },
)

-- the current record of a table, and what the words say of the state that they show
current_low : (sizes : Sizes) (words : Words) (states : States) → CurrentRecord sizes words states → current_record words < records sizes
current_low sizes words states h = h.row

row_said : (sizes : Sizes) (list : List ℕ) → current_record (word_at sizes list) < records sizes
    → table.current_record sizes list < records sizes
unfolding current_record
row_said sizes list h = h

said : (sizes : Sizes) (list : List ℕ) (s : StackState) → length list ≡ table_words sizes → table.current_record sizes list < records sizes
    → TableShows sizes list s → StateFits sizes s
    → SaysContent sizes list
said sizes list s whole row shows fits =
    let base = shows.base in
    let height = shows.height in
    let over = fits.overlay in
    let within = fits.within in
    record { whole = whole; row = row; overlay = omega arith; height = omega arith }

-- the words say the content of the stack
pub content_said : (sizes : Sizes) (list : List ℕ) (views : ProcessViews) (history : List Entry) → length list ≡ table_words sizes
    → MeetsInvariant sizes list views history → SaysContent sizes list
content_said sizes list views history whole (ghosts, h) =
    let words = word_at sizes list in
    let shows = tables_show sizes list (transfers views) ghosts.states h.stack in
    let fits = h.stack.transfers.records.states_fit (state_tag words) (omega arith) in
    said sizes list (present words ghosts.states) whole
    (row_said sizes list (current_low sizes words ghosts.states h.stack.transfers.records.current)) shows fits
