-- the words and views of every run meet the invariant, with the history that it makes
use Rattle.std.proofs.Common.{◌≡◌, ℕ, zero, suc, ◌+◌, ◌<◌, ◌==◌, Bool, true, false, Option, List, [], ◌∷◌, ◌++◌, length, refl, sym, ap, ◌∙◌}
use Rattle.std.proofs.Common.{inl, inr, arith, get_or, set, length-set, get_or-set_same, get_or-set_other, subst}
use Rattle.std.specs.Prelude.{if◌then◌else◌, nat_lt, ◌&&◌, None}
use Rattle.std.proofs.Math.Path.{fun_ext}
use Rattle.std.proofs.lemmas.Bool.{cases_eq}
use Rattle.std.proofs.lemmas.Bool.Decides.{nat_tests}
use Rattle.std.proofs.lemmas.List.{set-get_or, length-append, get_or_push, get_or_append_left, get_or_default, append-nil}
use Rattle.word_layout.specs.Sizes.{Sizes, IsShape, blocks}
use Rattle.word_layout.specs.Names.{table_words, word_at, place}
use Rattle.word_layout.specs.declared.announced.Wish.{Wish}
use Rattle.pool_model.specs.declared.entry.Entry.{Entry}
use Rattle.transfer_machine.specs.Opening.{AreOpening}
use Rattle.pool_machine.specs.Pools.{opening_view}
use Rattle.transfer_machine.specs.Words.{acted, met_word}
use Rattle.transfer_machine.specs.Stages.{is_rest}
use Rattle.pool_machine.specs.declared.call.Call.{Call}
use Rattle.pool_machine.specs.declared.view.ProcessView.{ProcessView}
use Rattle.batch_invariant.specs.Batches.{ProcessViews, MovedProcess}
use Rattle.pool_machine.specs.Beginning.{alone_begun}
use Rattle.pool_machine.specs.Conditions.{may_use_transfers}
use Rattle.pool_machine.specs.declared.event.Happened.{Happened}
use Rattle.pool_machine.specs.declared.event.Happened.TheVariants.{Ignored}
use Rattle.interleaving_core.specs.Turned.{Turned}
use Rattle.interleaving_core.specs.Invariant.{MeetsInvariant, IsAmong, IsAmongHolding, with_view}
use Rattle.interleaving_core.specs.Steps.{is_busy, is_at_step, next_action, next_met}
use Rattle.interleaving_core.specs.Moves.{CoreState, view_at, may_go_alone, moving_view, holds_for}
use Rattle.interleaving_core.specs.Moves.{may_go, started, calling_view, step_answer}
use Rattle.interleaving_core.specs.Moves.{holder_of, with_step, holders_after}
use Rattle.interleaving_core.specs.Runs.{Turn, Moves, Events, IsRun, opens, turns, opening_views, opened, by_of, is_made, turning_view}
use Rattle.interleaving_core.specs.Runs.{after_turn, turn_answer, entries_of}
use Rattle.interleaving_core.proofs.Holders.{HoldersFit, opened_holders, step_holders, truly_held}
use Rattle.interleaving_core.proofs.Begins.{alone_begins, call_starts}
use Rattle.interleaving_core.proofs.Busy.{moving_busy, calling_busy}
use Rattle.interleaving_core.proofs.Opens.{opening_holds}
use Rattle.interleaving_core.proofs.Standing.{number_holds, fresh_rests, alone_between}
use Rattle.interleaving_core.proofs.Tables.{acted_length, table_step, with_view_here, rests}

-- the words and views at the end of a run are those of the shape, and meet the invariant
pub record RunFits (s : CoreState) (history : List Entry) : Type 0 where
  pub shape : IsShape s.sizes
  pub whole : length s.words ≡ table_words s.sizes
  pub seats : length s.views ≡ s.sizes.processes
  pub meets : MeetsInvariant s.sizes s.words (view_at s) history
  pub holders : HoldersFit s.sizes history s.holders

-- the views of the opening, one more at a time
pub opening_none : (sizes : Sizes) → opening_views sizes 0 ≡ []
unfolding opening_views
opening_none sizes = refl

-- the opening views of one process more
pub opening_more : (sizes : Sizes) (count : ℕ)
    → opening_views sizes (count + 1) ≡ opening_views sizes count ++ opening_view sizes count ∷ []
unfolding opening_views
opening_more sizes count = let next : count + 1 ≡ suc count = omega arith in rw next refl

opening_length : (sizes : Sizes) (count : ℕ) → length (opening_views sizes count) ≡ count
unfolding opening_views
opening_length sizes zero = refl
opening_length sizes (suc count) =
    length-append (opening_views sizes count) (opening_view sizes count ∷ []) ∙ plus (opening_length sizes count)
  where
    plus : {a b : ℕ} → a ≡ b → a + 1 ≡ suc b
    plus e = omega (arith, e)

opening_seats : (sizes : Sizes) (d : ProcessView) (count i : ℕ) → i < count → get_or (opening_views sizes count) i d ≡ opening_view sizes i
unfolding opening_views
opening_seats sizes d zero i lt = absurd (omega arith)
opening_seats sizes d (suc count) i lt = elim (cases_eq i count) [
  | inl e ↦ rw e (get_or_push (opening_views sizes count) (opening_view sizes count) d count (opening_length sizes count))
  | inr ne ↦ get_or_append_left (opening_views sizes count) (opening_view sizes count ∷ []) d i
      (rw (opening_length sizes count) (omega arith)) ∙ opening_seats sizes d count i (omega arith)
]

opening_fits : (sizes : Sizes) (words : List ℕ) → IsShape sizes → AreOpening sizes words → RunFits (opened sizes words) []
opening_fits sizes words shape opening = record {
  shape = shape;
  whole = opening.whole;
  seats = opening_length sizes sizes.processes;
  meets =
      opening_holds sizes words (λ i. get_or (opening_views sizes sizes.processes) i (opening_view sizes i)) shape opening
      (λ i li. opening_seats sizes (opening_view sizes i) sizes.processes i li);
  holders = opened_holders sizes;
}

-- a list of views with another one at one place
moved_seats : (sizes : Sizes) (xs : List ProcessView) (i : ℕ) (v : ProcessView) → i < length xs
    → MovedProcess i v (λ o. get_or xs o (opening_view sizes o)) (λ o. get_or (set xs i v) o (opening_view sizes o))
moved_seats sizes xs i v lt = record {
  here = get_or-set_same xs i v (opening_view sizes i) lt;
  elsewhere = λ o ne. get_or-set_other xs i o v (opening_view sizes o) ne;
}

-- a view that is set and set again moves by the second alone
pub moved_twice : (sizes : Sizes) (xs : List ProcessView) (i : ℕ) (v x : ProcessView) → i < length xs
    → MovedProcess i x (λ o. get_or (set xs i v) o (opening_view sizes o)) (λ o. get_or (set xs i x) o (opening_view sizes o))
moved_twice sizes xs i v x lt = record {
  here = get_or-set_same xs i x (opening_view sizes i) lt;
  elsewhere = λ o ne. get_or-set_other xs i o x (opening_view sizes o) ne ∙ sym (get_or-set_other xs i o v (opening_view sizes o) ne);
}

-- both conditions of a turn
both_low : (a b : ℕ) (t : Bool) → (nat_lt a b && t) ≡ true → a < b
both_low a b true h = grind (arith, nat_tests)
both_low a b false h = grind (arith, nat_tests)

both_may : (a b : Bool) → (a && b) ≡ true → b ≡ true
both_may true b h = h
both_may false b h = grind arith

first_may : (a b : Bool) → (a && b) ≡ true → a ≡ true
first_may true b h = refl
first_may false b h = grind arith

-- a process that turns first begins its transfer or its call where it is in none
moving_meets : (s : CoreState) (history : List Entry) (i : ℕ) (wish : Wish) (t : Bool) → RunFits s history → i < s.sizes.processes
    → may_go_alone s.sizes wish (view_at s i) ≡ true → is_rest (view_at s i).transfer.next ≡ t
    → MeetsInvariant s.sizes s.words
    (λ o. get_or (set s.views i (if t then alone_begun wish (view_at s i) else view_at s i)) o (opening_view s.sizes o)) history
moving_meets s history i wish true fits li may rest =
    alone_begins s.sizes (word_at s.sizes s.words) (view_at s) _ history i wish fits.shape li fits.meets
    (rests (view_at s i).transfer.next rest) may (moved_seats s.sizes s.views i (alone_begun wish (view_at s i)) (rw fits.seats li))
moving_meets s history i wish false fits li may rest = rw (set-get_or s.views i (opening_view s.sizes i)) fits.meets

calling_meets : (s : CoreState) (history : List Entry) (i : ℕ) (call : Call) (t : Bool) → RunFits s history → i < s.sizes.processes
    → may_go s.sizes (holds_for s.holders i call) call (view_at s i) ≡ true → is_at_step (view_at s i).calls.stage ≡ t
    → MeetsInvariant s.sizes s.words
    (λ o. get_or (set s.views i (if t then view_at s i else started call (view_at s i))) o (opening_view s.sizes o)) history
calling_meets s history i call true fits li may inside = rw (set-get_or s.views i (opening_view s.sizes i)) fits.meets
calling_meets s history i call false fits li may inside =
    let v = view_at s i in
    call_starts s.sizes (word_at s.sizes s.words) (view_at s) _ history i call (holds_for s.holders i call) fits.shape li fits.meets
    inside may
    (truly_held s.sizes history s.holders i call fits.holders) (moved_seats s.sizes s.views i (started call v) (rw fits.seats li))

-- a turn that is made is so from a view that meets the invariant
pub turn_meets : (s : CoreState) (history : List Entry) (turn : Turn) → RunFits s history → is_made turn s ≡ true
    → by_of turn < s.sizes.processes
    → MeetsInvariant s.sizes s.words (λ o. get_or (set s.views (by_of turn) (turning_view turn s)) o (opening_view s.sizes o)) history
turn_meets s history (Moves by wish) fits made li =
    moving_meets s history by wish (is_rest (view_at s by).transfer.next) fits li
    (both_may (nat_lt by s.sizes.processes) (may_go_alone s.sizes wish (view_at s by)) made) refl
turn_meets s history (Events by call) fits made li =
    calling_meets s history by call (is_at_step (view_at s by).calls.stage) fits li (both_may (nat_lt by s.sizes.processes) _ made) refl

-- and that view is busy
pub turn_busy : (s : CoreState) (history : List Entry) (turn : Turn) → RunFits s history → is_made turn s ≡ true
    → by_of turn < s.sizes.processes → is_busy (turning_view turn s) ≡ true
turn_busy s history (Moves by wish) fits made li =
    let v = view_at s by in
    let may = both_may (nat_lt by s.sizes.processes) (may_go_alone s.sizes wish v) made in
    moving_busy wish v v.calls.way (is_rest v.transfer.next) refl
    (fresh_rests s.sizes (word_at s.sizes s.words) (view_at s) history by li fits.meets) refl
    (first_may (may_use_transfers v.calls.way) _ may)
turn_busy s history (Events by call) fits made li =
    let v = view_at s by in
    calling_busy call v v.calls.way (is_at_step v.calls.stage) refl
    (alone_between s.sizes (word_at s.sizes s.words) (view_at s) history by li fits.meets) refl

-- a turn that is made is one of a process of the pool
pub turn_low : (s : CoreState) (turn : Turn) → is_made turn s ≡ true → by_of turn < s.sizes.processes
turn_low s (Moves by wish) made = both_low by s.sizes.processes (may_go_alone s.sizes wish (view_at s by)) made
turn_low s (Events by call) made = both_low by s.sizes.processes (may_go s.sizes (holds_for s.holders by call) call (view_at s by)) made

-- a turn that is made keeps the invariant
made_fits : (s : CoreState) (history : List Entry) (turn : Turn) → RunFits s history → is_made turn s ≡ true
    → RunFits (with_step (by_of turn) (turning_view turn s) s) (history ++ entries_of (step_answer (turning_view turn s) s))
made_fits s history turn fits made =
    let by = by_of turn in
    let v = turning_view turn s in
    let li = turn_low s turn made in
    let word = met_word s.sizes s.words (next_action s.sizes v) in
    let x = next_met s.sizes v word in
    let xs = set s.views by v in
    let low : by < length s.views = rw fits.seats li in
    let begun = turn_meets s history turn fits made li in
    let here : get_or xs by (opening_view s.sizes by) ≡ v = get_or-set_same s.views by v (opening_view s.sizes by) low in
    let stepped = table_step s.sizes s.words (λ o. get_or xs o (opening_view s.sizes o))
    (λ o. get_or (set s.views by x) o (opening_view s.sizes o)) history by fits.shape fits.whole li begun in
    let met = (rw here at stepped) (turn_busy s history turn fits made li) (moved_twice s.sizes s.views by v x low) in
    record {
      shape = fits.shape;
      whole = acted_length s.sizes s.words (next_action s.sizes v) ∙ fits.whole;
      seats = length-set s.views by x ∙ fits.seats;
      meets = met;
      holders =
          step_holders s.sizes (acted s.sizes s.words (next_action s.sizes v)) (λ o. get_or (set s.views by x) o (opening_view s.sizes o))
          history s.holders (step_answer v s) fits.holders met;
    }

turn_fits : (s : CoreState) (history : List Entry) (turn : Turn) (t : Bool) → RunFits s history → is_made turn s ≡ t
    → RunFits (if t then with_step (by_of turn) (turning_view turn s) s else s)
    (history ++ entries_of (if t then step_answer (turning_view turn s) s else Ignored))
turn_fits s history turn true fits made = made_fits s history turn fits made
turn_fits s history turn false fits made = rw (append-nil history) fits

-- every run
pub run_fits : (sizes : Sizes) (past : List Turn) (history : List Entry) (s : CoreState) → IsRun sizes past history s → RunFits s history
run_fits sizes past history s (opens words shape opening) = opening_fits sizes words shape opening
run_fits sizes past history s (turns before made old turn run) =
    turn_fits old made turn (is_made turn old) (run_fits sizes before made old run) refl

-- the words, views and holders are as many as the shape says: so it is after a run
pub record HasLengths (s : CoreState) (sizes : Sizes) : Type 0 where
  pub words : length s.words ≡ table_words sizes
  pub views : length s.views ≡ sizes.processes
  pub holders : length s.holders ≡ blocks sizes

-- a state at the end of some run
abbrev pub SomeRun : Sizes → CoreState → Type 0
SomeRun sizes s = (past : List Turn) × (history : List Entry) × IsRun sizes past history s

-- a run has as many words, views and holders as its sizes say
pub run_lengths : (sizes : Sizes) (s now : CoreState) → s ≡ now → SomeRun sizes s → HasLengths s now.sizes
run_lengths sizes s now same (past, history, run) =
    let fits = run_fits sizes past history s run in
    record {
      words = fits.whole ∙ ap (λ x. table_words x.sizes) same;
      views = fits.seats ∙ ap (λ x. x.sizes.processes) same;
      holders = fits.holders.size ∙ ap (λ x. blocks x.sizes) same;
    }

-- so what a caller asks for at a place, of a process or of a block is what the run has there
item_seen : {A : Type 0} (list : CoreState → List A) (s now : CoreState) (i n : ℕ) (d x : A) → s ≡ now → length (list s) ≡ n → i < n
    → x ≡ get_or (list s) i x → x ≡ get_or (list now) i d
item_seen list s now i n d x same long low is = rw (sym same) (is ∙ get_or_default (list s) i x d (rw long low))

-- a word that is read off a run's table is the state's
pub word_seen : (sizes : Sizes) (s now : CoreState) (place word : ℕ) → s ≡ now → SomeRun sizes s → place < table_words now.sizes
    → word ≡ get_or s.words place word → word ≡ get_or now.words place 0
word_seen sizes s now place word same run low is =
    let lengths = run_lengths sizes s now same run in
    item_seen (λ (x : CoreState). x.words) s now place (table_words now.sizes) 0 word same lengths.words low is

-- a view that is read off its list is the process's
pub view_seen : (sizes : Sizes) (s now : CoreState) (process : ℕ) (v : ProcessView) → s ≡ now → SomeRun sizes s
    → process < now.sizes.processes → v ≡ get_or s.views process v → v ≡ view_at now process
view_seen sizes s now process v same run low is =
    let lengths = run_lengths sizes s now same run in
    item_seen (λ (x : CoreState). x.views) s now process now.sizes.processes (opening_view now.sizes process) v same lengths.views low is

-- a holder that is read off its list is the block's
pub holder_seen : (sizes : Sizes) (s now : CoreState) (block : ℕ) (holder : Option ℕ) → s ≡ now → SomeRun sizes s → block < blocks now.sizes
    → holder ≡ get_or s.holders block holder → holder ≡ holder_of now block
holder_seen sizes s now block holder same run low is =
    let lengths = run_lengths sizes s now same run in
    item_seen (λ (x : CoreState). x.holders) s now block (blocks now.sizes) None holder same lengths.holders low is

-- a process of a run is one of the processes
pub run_among : (sizes : Sizes) (past : List Turn) (history : List Entry) (s : CoreState) (i : ℕ) → IsRun sizes past history s
    → i < s.sizes.processes → IsAmong s.sizes s.words (view_at s i)
run_among sizes past history s i run li =
    let fits = run_fits sizes past history s run in
    let number = number_holds s.sizes (word_at s.sizes s.words) (view_at s) history i li fits.meets in
    let meets = fits.meets in
    record {
      low = rw number li;
      others = view_at s;
      past = history;
      meets = rw (fun_ext (λ o. same_views (view_at s) (view_at s i).transfer.number i o number)) meets;
    }
  where
    same_views : (views : ProcessViews) (n i o : ℕ) → n ≡ i → (if o == n then views i else views o) ≡ views o
    same_views views n i o e = elim (cases_eq o i) [
      | inl same ↦ let test : (o == n) ≡ true = grind (arith, nat_tests) in rw (test, same) refl
      | inr ne ↦ let test : (o == n) ≡ false = grind (arith, nat_tests) in rw test refl
    ]

-- a process of a run is among the states of its table, with what it holds
pub run_holding : (sizes : Sizes) (past : List Turn) (history : List Entry) (s : CoreState) (i : ℕ) (call : Call)
    → IsRun sizes past history s → i < s.sizes.processes → IsAmongHolding s.sizes s.words (view_at s i) (holds_for s.holders i call) call
unfolding run_among
run_holding sizes past history s i call run li =
    let fits = run_fits sizes past history s run in
    let number = number_holds s.sizes (word_at s.sizes s.words) (view_at s) history i li fits.meets in
    record { among = run_among sizes past history s i run li; held = rw number (truly_held s.sizes history s.holders i call fits.holders) }

-- a run goes on by a turn, which is made or ignored
pub run_ignores : (sizes : Sizes) (past : List Turn) (history : List Entry) (s : CoreState) (turn : Turn) → is_made turn s ≡ false
    → IsRun sizes past history s → IsRun sizes (past ++ turn ∷ []) (history ++ []) s
run_ignores sizes past history s turn made run =
    subst (λ (b : Bool). IsRun sizes (past ++ turn ∷ [])
    (history ++ entries_of (if b then step_answer (turning_view turn s) s else Ignored))
    (if b then with_step (by_of turn) (turning_view turn s) s else s)) made (turns past history s turn run)

-- a turn that is made goes on with the run, with the entry that it answers
pub run_makes : (sizes : Sizes) (past : List Turn) (history : List Entry) (s : CoreState) (turn : Turn) → is_made turn s ≡ true
    → IsRun sizes past history s
    → IsRun sizes (past ++ turn ∷ []) (history ++ entries_of (step_answer (turning_view turn s) s))
    (with_step (by_of turn) (turning_view turn s) s)
run_makes sizes past history s turn made run =
    subst (λ (b : Bool). IsRun sizes (past ++ turn ∷ [])
    (history ++ entries_of (if b then step_answer (turning_view turn s) s else Ignored))
    (if b then with_step (by_of turn) (turning_view turn s) s else s)) made (turns past history s turn run)

-- a process of a run, which is to make a turn
pub run_made : (s now : CoreState) (turn : Turn) (b : Bool) → s ≡ now → b ≡ is_made turn now → b ≡ true → is_made turn s ≡ true
run_made s now turn b same can holds = subst (λ (x : CoreState). is_made turn x ≡ true) (sym same) (sym can ∙ holds)

-- what the step of that turn asks of the run
abbrev pub IsAmongFor : Turn → CoreState → Type 0
IsAmongFor (Moves by wish) s = IsAmong s.sizes s.words (view_at s by)
IsAmongFor (Events by call) s = IsAmongHolding s.sizes s.words (view_at s by) (holds_for s.holders by call) call

among_for : (sizes : Sizes) (past : List Turn) (history : List Entry) (s : CoreState) (turn : Turn) → IsRun sizes past history s
    → by_of turn < s.sizes.processes → IsAmongFor turn s
among_for sizes past history s (Moves by wish) run li = run_among sizes past history s by run li
among_for sizes past history s (Events by call) run li = run_holding sizes past history s by call run li

-- a turn is of a process of the pool, and its view is due for a step
pub record IsDue (turn : Turn) (s : CoreState) : Type 0 where
  pub low : by_of turn < length s.views
  pub among : IsAmongFor turn s

-- a turn that is made in a run is due
pub run_due : (sizes : Sizes) (s now : CoreState) (turn : Turn) (b : Bool) → s ≡ now → SomeRun sizes s → b ≡ is_made turn now → b ≡ true
    → IsDue turn s
run_due sizes s now turn b same (past, history, run) can holds =
    let li = turn_low s turn (run_made s now turn b same can holds) in
    record { low = rw (run_fits sizes past history s run).seats li; among = among_for sizes past history s turn run li }

-- the words, views and holders that it leaves
pub run_turned : (sizes : Sizes) (past : List Turn) (history : List Entry) (s now : CoreState) (turn : Turn) (b : Bool) (words : List ℕ)
    (seats : List ProcessView) (holders : List (Option ℕ)) (happened : Happened)
    → s ≡ now → b ≡ is_made turn now → b ≡ true
    → Turned s.sizes (by_of turn) (turning_view turn s) s.words s.views words seats happened
    → holders ≡ holders_after happened s.holders
    → IsRun sizes past history s
    → IsRun sizes (past ++ turn ∷ []) (history ++ entries_of happened)
    (record { sizes = s.sizes; words = words; views = seats; holders = holders })
run_turned sizes past history s now turn b words seats holders happened same can holds turned noted run =
    rw (noted, turned.answers, turned.acts, turned.meets) (run_makes sizes past history s turn (run_made s now turn b same can holds) run)

-- the state after it, and its answer
pub turned_state : (s now : CoreState) (turn : Turn) (b : Bool) (words : List ℕ) (seats : List ProcessView) (holders : List (Option ℕ))
    (happened : Happened)
    → s ≡ now → b ≡ is_made turn now → b ≡ true
    → Turned s.sizes (by_of turn) (turning_view turn s) s.words s.views words seats happened → holders ≡ holders_after happened s.holders
    → record { sizes = s.sizes; words = words; views = seats; holders = holders } ≡ after_turn turn now
turned_state s now turn b words seats holders happened same can holds turned noted =
    let made = run_made s now turn b same can holds in
    rw (sym same) (rw (made, noted, turned.answers, turned.acts, turned.meets) refl)

-- what the running step answers is the turn's answer
pub turned_answer : (s now : CoreState) (turn : Turn) (b : Bool) (words : List ℕ) (seats : List ProcessView) (happened : Happened) → s ≡ now
    → b ≡ is_made turn now → b ≡ true
    → Turned s.sizes (by_of turn) (turning_view turn s) s.words s.views words seats happened → happened ≡ turn_answer turn now
turned_answer s now turn b words seats happened same can holds turned =
    let made = run_made s now turn b same can holds in
    rw (sym same) (rw made turned.answers)

-- a process among the others that turns has a next step
pub moving_next : (sizes : Sizes) (table : List ℕ) (v : ProcessView) (wish : Wish) → may_go_alone sizes wish v ≡ true
    → IsAmong sizes table v
    → is_busy (moving_view wish v) ≡ true
moving_next sizes table v wish may among =
    let here = with_view_here v among.others in
    let fresh = fresh_rests sizes (word_at sizes table) (with_view v among.others) among.past v.transfer.number among.low among.meets in
    moving_busy wish v v.calls.way (is_rest v.transfer.next) refl (rw here at fresh) refl (first_may (may_use_transfers v.calls.way) _ may)

-- a process in a call is busy
pub calling_next : (sizes : Sizes) (table : List ℕ) (v : ProcessView) (call : Call) → IsAmong sizes table v
    → is_busy (calling_view call v) ≡ true
calling_next sizes table v call among =
    let here = with_view_here v among.others in
    let alone = alone_between sizes (word_at sizes table) (with_view v among.others) among.past v.transfer.number among.low among.meets in
    calling_busy call v v.calls.way (is_at_step v.calls.stage) refl (rw here at alone) refl

-- whether a process of the shape moves, or goes on with a call
is_low : (a b : ℕ) → a < b → nat_lt a b ≡ true
is_low a b lt = grind (arith, nat_tests)

-- whether a transfer alone may go is asked of the state's own view
pub may_go_alone_here : (sizes : Sizes) (s now : CoreState) (by : ℕ) (wish : Wish) (v : ProcessView) (b : Bool) → s ≡ now
    → SomeRun sizes s → by < s.sizes.processes → v ≡ get_or s.views by v → b ≡ may_go_alone s.sizes wish v → b ≡ is_made (Moves by wish) now
may_go_alone_here sizes s now by wish v b same run low here may =
    let among = is_low by s.sizes.processes low in
    rw (sym same) (rw among (may ∙ ap (may_go_alone s.sizes wish) (view_seen sizes s s by v refl run low here)))

-- so is whether a call may go
pub may_go_here : (sizes : Sizes) (s now : CoreState) (by : ℕ) (call : Call) (v : ProcessView) (b holds : Bool) → s ≡ now
    → SomeRun sizes s → by < s.sizes.processes → v ≡ get_or s.views by v → holds ≡ holds_for s.holders by call
    → b ≡ may_go s.sizes holds call v → b ≡ is_made (Events by call) now
may_go_here sizes s now by call v b holds same run low here held may =
    let among = is_low by s.sizes.processes low in
    rw (sym same) (rw among (may ∙ ap (λ h. may_go s.sizes h call v) held ∙ ap (may_go s.sizes (holds_for s.holders by call) call)
    (view_seen sizes s s by v refl run low here)))
