-- the data words of held blocks
use Rattle.std.proofs.Common.{◌≡◌, ◌≢◌, ℕ, ◌<◌, Bool, true, false, Option, None, Some, List, refl, sym, ap, inl, inr, get_or, set}
use Rattle.std.proofs.Common.{get_or-set_same}
use Rattle.std.specs.Prelude.{if◌then◌else◌, Contains}
use Rattle.std.proofs.lemmas.Bool.{cases_eq}
use Rattle.word_layout.specs.Sizes.{Sizes, blocks}
use Rattle.word_layout.specs.Names.{InRange, word_at}
use Rattle.word_layout.specs.declared.name.WordName.TheVariants.{Data}
use Rattle.pool_model.specs.declared.entry.Entry.{Entry}
use Rattle.pool_machine.specs.Pools.{opening_view}
use Rattle.transfer_machine.specs.Words.{acted}
use Rattle.transfer_machine.specs.declared.action.Action.TheVariants.{Load}
use Rattle.pool_machine.specs.declared.call.Call.{Call}
use Rattle.pool_machine.specs.declared.call.Call.TheVariants.{Allocate, Free, Read, Write, Search}
use Rattle.pool_machine.specs.declared.call.CallStage.{CallStage}
use Rattle.pool_machine.specs.declared.call.CallStage.TheVariants.{Between, Choosing, Moving, Own}
use Rattle.pool_machine.specs.declared.view.PoolView.{PoolView}
use Rattle.pool_machine.specs.declared.view.ProcessView.{ProcessView}
use Rattle.transfer_invariant.specs.Memory.{Words, Acted, state_tag}
use Rattle.batch_invariant.specs.Batches.{ProcessViews}
use Rattle.chain_invariant.specs.Calls.{NamesHeld}
use Rattle.chain_invariant.proofs.Gives.{held_are_apart}
use Rattle.pool_machine.specs.Beginning.{call_begun}
use Rattle.pool_machine.specs.OwnSteps.{own_action_for, allocate_action, next_block}
use Rattle.pool_machine.specs.Steps.{call_action_at}
use Rattle.pool_machine.specs.declared.event.Happened.TheVariants.{Loaded, Stored}
use Rattle.interleaving_core.specs.Invariant.{held_in}
use Rattle.interleaving_core.specs.Moves.{CoreState, view_at, holder_of, is_holder, calling_view, with_step, step_answer}
use Rattle.interleaving_core.specs.Runs.{Turn, Events, by_of, is_made, turning_view, after_turn, turn_answer}
use Rattle.interleaving_core.specs.Steps.{is_alone, next_action}
use Rattle.interleaving_core.specs.CallLaws as laws
use Rattle.interleaving_core.proofs.OwnData.{same_block, same_index}
use Rattle.interleaving_core.proofs.TransferSteps.{data_stays}
use Rattle.interleaving_core.proofs.Holds.{step_allowed}
use Rattle.interleaving_core.proofs.Tables.{table_acted, next_in_range}
use Rattle.interleaving_core.proofs.Runs.{RunFits, turn_low, turn_meets, turn_busy}
use Rattle.interleaving_core.proofs.CallLaws.{every_run}

-- an own step that isn't a write to a data word leaves it
allocate_leaves : (sizes : Sizes) (words new : Words) (b k : ℕ) (block : Option ℕ) → InRange sizes (Data b k)
    → Acted sizes (allocate_action block) words new → new (Data b k) ≡ words (Data b k)
allocate_leaves sizes words new b k None low a = a.elsewhere (Data b k) low (λ e. cc)
allocate_leaves sizes words new b k (Some block) low a = a.elsewhere (Data b k) low (λ e. cc)

load_leaves : (sizes : Sizes) (words new : Words) (b k block index : ℕ) → InRange sizes (Data b k)
    → Acted sizes (Load (Data block index)) words new → new (Data b k) ≡ words (Data b k)
load_leaves sizes words new b k block index low a = elim (cases_eq b block) [
  | inl eb ↦ elim (cases_eq k index) [
    | inl ek ↦ rw (eb, ek) a.here
    | inr ne ↦ a.elsewhere (Data b k) low (λ e. ne (same_index b k block index e))
  ]
  | inr ne ↦ a.elsewhere (Data b k) low (λ e. ne (same_block b k block index e))
]

own_leaves : (sizes : Sizes) (words new : Words) (pool : PoolView) (b k : ℕ) (call : Option Call) → InRange sizes (Data b k)
    → ((value : ℕ) → call ≢ Some (Write b k value)) → Acted sizes (own_action_for pool call) words new
    → new (Data b k) ≡ words (Data b k)
own_leaves sizes words new pool b k None low not a = a.elsewhere (Data b k) low (λ e. cc)
own_leaves sizes words new pool b k (Some Allocate) low not a = allocate_leaves sizes words new b k (next_block pool) low a
own_leaves sizes words new pool b k (Some (Free block)) low not a = a.elsewhere (Data b k) low (λ e. cc)
own_leaves sizes words new pool b k (Some (Read block index)) low not a = load_leaves sizes words new b k block index low a
own_leaves sizes words new pool b k (Some (Write block index value)) low not a = elim (cases_eq b block) [
  | inl eb ↦ elim (cases_eq k index) [
    | inl ek ↦ absurd (not value (rw (eb, ek) refl))
    | inr ne ↦ a.elsewhere (Data b k) low (λ e. ne (same_index b k block index e))
  ]
  | inr ne ↦ a.elsewhere (Data b k) low (λ e. ne (same_block b k block index e))
]
own_leaves sizes words new pool b k (Some Search) low not a = allocate_leaves sizes words new b k (next_block pool) low a

-- so does every step of a process whose call isn't such a write
call_leaves : (sizes : Sizes) (words new : Words) (v : ProcessView) (b k : ℕ) (stage : CallStage) → b < blocks sizes → k < sizes.words
    → ((value : ℕ) → v.calls.call ≢ Some (Write b k value)) → Acted sizes (call_action_at sizes v stage) words new
    → new (Data b k) ≡ words (Data b k)
call_leaves sizes words new v b k Between lb lk not a = a.elsewhere (Data b k) (lb, lk) (λ e. cc)
call_leaves sizes words new v b k Choosing lb lk not a = a.elsewhere (Data b k) (lb, lk) (λ e. cc)
call_leaves sizes words new v b k Moving lb lk not a = data_stays sizes v.transfer words new b k a lb lk
call_leaves sizes words new v b k Own lb lk not a = own_leaves sizes words new v.pool b k v.calls.call (lb, lk) not a

step_leaves : (sizes : Sizes) (words new : Words) (v : ProcessView) (b k : ℕ) (t : Bool) → is_alone v.calls.way ≡ t → b < blocks sizes
    → k < sizes.words → ((value : ℕ) → v.calls.call ≢ Some (Write b k value)) → Acted sizes (next_action sizes v) words new
    → new (Data b k) ≡ words (Data b k)
step_leaves sizes words new v b k true alone lb lk not a = data_stays sizes v.transfer words new b k (rw alone at a) lb lk
step_leaves sizes words new v b k false alone lb lk not a = call_leaves sizes words new v b k v.calls.stage lb lk not (rw alone at a)

-- a process writes only to blocks that it holds
names_written : (sizes : Sizes) (held : List ℕ) (call : Option Call) (block index value : ℕ) → NamesHeld sizes held call
    → call ≡ Some (Write block index value) → Contains held block
names_written sizes held call block index value names e = (rw e at names).0

-- the step of a turn acts on the words by their names
pub turn_acts : (s : CoreState) (history : List Entry) (turn : Turn) → RunFits s history → is_made turn s ≡ true
    → Acted s.sizes (next_action s.sizes (turning_view turn s)) (word_at s.sizes s.words)
    (word_at s.sizes (acted s.sizes s.words (next_action s.sizes (turning_view turn s))))
turn_acts s history turn fits made =
    let by = by_of turn in
    let v = turning_view turn s in
    let xs = set s.views by v in
    let li = turn_low s turn made in
    let here : get_or xs by (opening_view s.sizes by) ≡ v = get_or-set_same s.views by v (opening_view s.sizes by) (rw fits.seats li) in
    let begun = turn_meets s history turn fits made li in
    let allowed = step_allowed s.sizes (word_at s.sizes s.words) (λ o. get_or xs o (opening_view s.sizes o)) history by fits.shape li begun
    in
    let can = (rw here at allowed) (turn_busy s history turn fits made li) in
    table_acted s.sizes s.words (next_action s.sizes v) fits.whole
    (next_in_range s.sizes (word_at s.sizes s.words) v (is_alone v.calls.way) refl can)

-- a turn that is made leaves the data word
writes_not : (s : CoreState) (history : List Entry) (i block index : ℕ) (turn : Turn) → RunFits s history → is_made turn s ≡ true
    → is_holder i (holder_of s block) ≡ true → laws.WritesNot i block index turn s
    → (block < blocks s.sizes) × ((value : ℕ) → (turning_view turn s).calls.call ≢ Some (Write block index value))
writes_not s history i block index turn fits made holds not =
    let by = by_of turn in
    let v = turning_view turn s in
    let xs = set s.views by v in
    let views : ProcessViews = λ o. get_or xs o (opening_view s.sizes o) in
    let li = turn_low s turn made in
    let low = fits.holders.low i block holds in
    let here : views by ≡ v = get_or-set_same s.views by v (opening_view s.sizes by) (rw fits.seats li) in
    let (ghosts, h) = turn_meets s history turn fits made li in
    let words = word_at s.sizes s.words in
    let has : Contains (held_in ghosts.ledgers i) block = rw (sym (h.entries.each i low).sees.own_entries)
    (fits.holders.truly i block holds) in
    let (below, apart) = held_are_apart s.sizes words (ghosts.states (state_tag words)) views (held_in ghosts.ledgers) i block low h.chains
    has in
    let names = h.names by li in (
      below,
      λ value e. elim (cases_eq by i) [
        | inl same ↦ not same value e
        | inr ne ↦ apart by li ne (names_written s.sizes (held_in ghosts.ledgers by) v.calls.call block index value (rw here at names) e)
      ],
    )

kept_turn : (s : CoreState) (history : List Entry) (i block index : ℕ) (turn : Turn) (t : Bool) → RunFits s history → is_made turn s ≡ t
    → is_holder i (holder_of s block) ≡ true → index < s.sizes.words → laws.WritesNot i block index turn s
    → word_at s.sizes (if t then with_step (by_of turn) (turning_view turn s) s else s).words (Data block index) ≡ word_at s.sizes s.words
    (Data block index)
kept_turn s history i block index turn true fits made holds within not =
    let v = turning_view turn s in
    let (below, other) = writes_not s history i block index turn fits made holds not in
    step_leaves s.sizes (word_at s.sizes s.words) _ v block index (is_alone v.calls.way) refl below within other
    (turn_acts s history turn fits made)
kept_turn s history i block index turn false fits made holds within not = refl

-- a held block's data words are what its holder knows, of the state's own sizes
abbrev pub KeepsData : Sizes → List Entry → CoreState → Type 0
KeepsData sizes history s =
    (i block index : ℕ) (turn : Turn) → is_holder i (holder_of s block) ≡ true → index < sizes.words → laws.WritesNot i block index turn s
    → word_at sizes (after_turn turn s).words (Data block index) ≡ word_at sizes s.words (Data block index)

data_here : (history : List Entry) (s : CoreState) → RunFits s history → KeepsData s.sizes history s
data_here history s fits i block index turn holds within not =
    kept_turn s history i block index turn (is_made turn s) fits refl holds within not

-- nobody else changes the data words of a held block
pub data_is_kept : laws.DataIsKept
data_is_kept = every_run KeepsData data_here

-- a read and a write, made by a process between two calls
pub begun_first : (call : Call) (v : ProcessView) → v.calls.stage ≡ Between → calling_view call v ≡ call_begun call v
begun_first call v e = rw e refl

-- a read is answered the data word as it stands, of the state's own sizes
abbrev pub LoadsData : Sizes → List Entry → CoreState → Type 0
LoadsData sizes history s = (i block index : ℕ) → (view_at s i).calls.stage ≡ Between → is_made (Events i (Read block index)) s ≡ true
    → turn_answer (Events i (Read block index)) s ≡ Loaded (word_at sizes s.words (Data block index))

loads_here : (history : List Entry) (s : CoreState) → RunFits s history → LoadsData s.sizes history s
loads_here history s fits i block index between made =
    rw made (ap (λ v. step_answer v s) (begun_first (Read block index) (view_at s i) between))

-- a read is answered the data word as it stands
pub reads_load : laws.ReadsLoad
reads_load = every_run LoadsData loads_here

-- a write sets its data word and no other, of the state's own sizes
abbrev pub StoresData : Sizes → List Entry → CoreState → Type 0
StoresData sizes history s =
    (i block index value : ℕ) → (view_at s i).calls.stage ≡ Between → is_made (Events i (Write block index value)) s ≡ true
    → (turn_answer (Events i (Write block index value)) s ≡ Stored)
    × (word_at sizes (after_turn (Events i (Write block index value)) s).words (Data block index) ≡ value)

stored_word : (sizes : Sizes) (words new : Words) (v w : ProcessView) (block index value : ℕ) → v ≡ call_begun (Write block index value) w
    → Acted sizes (next_action sizes v) words new → new (Data block index) ≡ value
stored_word sizes words new v w block index value e a = let acts = rw e at a in acts.here

stores_here : (history : List Entry) (s : CoreState) → RunFits s history → StoresData s.sizes history s
stores_here history s fits i block index value between made =
    let turn = Events i (Write block index value) in
    let first = begun_first (Write block index value) (view_at s i) between in (
      rw made (ap (λ v. step_answer v s) first),
      rw made (stored_word s.sizes (word_at s.sizes s.words)
          (word_at s.sizes (acted s.sizes s.words (next_action s.sizes (turning_view turn s)))) (turning_view turn s) (view_at s i) block
          index value first (turn_acts s history turn fits made)),
    )

-- a write sets its data word and no other
pub writes_store : laws.WritesStore
writes_store = every_run StoresData stores_here
