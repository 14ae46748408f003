-- A replay is the machine's run over its events.
use Rattle.std.proofs.Common.{◌≡◌, ℕ, zero, suc, ◌+◌, ◌*◌, ◌^◌, ◌<◌, ◌≤◌, List, [], ◌∷◌, ◌++◌, length, map, sum, get_or, None, Some}
use Rattle.std.proofs.Common.{Option, refl, ap, sym, ◌∙◌, append_assoc, append-nil, subst, arith}
use Rattle.std.specs.Prelude.{flat_map}
use Rattle.std.specs.Option.{option_to_list}
use Rattle.std.specs.List.{range_with_len, sum_by}
use Rattle.std.proofs.lemmas.Grind.{flat_map-append}
use Rattle.std.proofs.lemmas.List.FromFn.{sum_by-map-range_with_len_more}
use Rattle.process_sums.proofs.Sums.{total_more}
use Rattle.process_sums.specs.Sums.{total}
use Rattle.word_layout.specs.Sizes.{Sizes, blocks}
use Rattle.pool_model.specs.declared.entry.Entry.{Entry}
use Rattle.pool_model.specs.History.{held}
use Rattle.transfer_machine.specs.Opening.{AreOpening}
use Rattle.transfer_machine.specs.Words.{stack}
use Rattle.pool_machine.specs.Pools.{opening_view}
use Rattle.pool_machine.specs.declared.event.Happened.{Happened}
use Rattle.pool_machine.specs.declared.event.Happened.TheVariants.{Step, Ended, Loaded, Stored, Ignored}
use Rattle.pool_machine.specs.declared.view.ProcessView.{ProcessView}
use Rattle.interleaving_core.specs.Kept.{kept}
use Rattle.interleaving_core.specs.Moves.{CoreState, view_at}
use Rattle.interleaving_core.specs.Runs.{IsRun, after_turn, turn_answer, entries_of, opened, opening_views}
use Rattle.interleaving_core.specs.TransferLaws.{after_turns, entries_made}
use Rattle.interleaving_core.proofs.CallLaws as laws
use Rattle.interleaving_core.proofs.RunTurns.{run_holds, run_sizes, runs_are_made, runs_go_on}
use Rattle.schedule_replay.specs.Reading.{most_events}
use Rattle.schedule_replay.specs.Replays.{HasTurns, IsAsked, IsReplay, Makes, each_event, entries_in, note_of, notes_made, state_number}
use Rattle.schedule_replay.specs.Replays.{turn_of}
use Rattle.schedule_replay.specs.declared.replaying.Replayed.{Replayed}
use Rattle.schedule_replay.specs.declared.schedule.Repeat.{Repeat}
use Rattle.schedule_replay.specs.declared.schedule.Schedule.{Schedule}

-- views of no transfer, and one more
one_more_age : (views : List ProcessView) (last d : ProcessView) → last.transfer.age ≡ 0
    → ((k : ℕ) → (get_or views k d).transfer.age ≡ 0) → (k : ℕ) → (get_or (views ++ last ∷ []) k d).transfer.age ≡ 0
one_more_age [] last d none all zero = none
one_more_age [] last d none all (suc k) = all k
one_more_age (first ∷ views) last d none all zero = all zero
one_more_age (first ∷ views) last d none all (suc k) = one_more_age views last d none (λ j. all (suc j)) k

-- at the opening no process has begun a transfer
opening_ages : (sizes : Sizes) (d : ProcessView) → d.transfer.age ≡ 0 → (count k : ℕ)
    → (get_or (opening_views sizes count) k d).transfer.age ≡ 0
unfolding opening_views
opening_ages sizes d none zero zero = none
opening_ages sizes d none zero (suc k) = none
opening_ages sizes d none (suc count) k =
    one_more_age (opening_views sizes count) (opening_view sizes count) d refl (opening_ages sizes d none count) k

-- a run of no turn is the opening
is_opened : (sizes : Sizes) (words : List ℕ) (s : CoreState) → s ≡ after_turns [] (opened sizes words) → s ≡ opened sizes words
unfolding after_turns
is_opened sizes words s e = e

opened_ages : (sizes : Sizes) (words : List ℕ) (s : CoreState) → s ≡ opened sizes words → (i : ℕ) → (view_at s i).transfer.age ≡ 0
opened_ages sizes words s e i =
    ap (λ x. (view_at x i).transfer.age) e ∙ opening_ages sizes (opening_view sizes i) refl sizes.processes i

-- so from the opening on as many events may be made as a schedule has at most
pub may_make_all : (sizes : Sizes) (s : CoreState) (count : ℕ) → IsRun sizes [] [] s → count ≤ 2 ^ 24 → HasTurns count s
may_make_all sizes s count run few =
    let holds = run_holds sizes [] [] s run in
    let (words, opening, same, none) = runs_are_made sizes [] [] s run in
    let at = is_opened sizes words s same in
    record {
      shape = holds.shape;
      views = holds.views;
      young = λ i li. omega (arith, few, opened_ages sizes words s at i);
    }

-- the entries of a note are those of the answer
entries_noted : (repeat : Repeat) (answer : Happened) → entries_in (option_to_list (note_of repeat answer)) ≡ entries_of answer
entries_noted repeat (Step kind) = refl
entries_noted repeat (Ended kind entry) = refl
entries_noted repeat (Loaded word) = refl
entries_noted repeat Stored = refl
entries_noted repeat Ignored = refl

-- the entries among the notes are those that the events make
entries_are : (events : List Repeat) (s : CoreState) → entries_in (notes_made events s) ≡ entries_made (map turn_of events) s
unfolding notes_made entries_made
entries_are [] s = refl
entries_are (repeat ∷ events) s =
    flat_map-append (λ note. entries_of note.what) (option_to_list (note_of repeat (turn_answer (turn_of repeat) s)))
    (notes_made events (after_turn (turn_of repeat) s))
    ∙ ap (λ entries. entries ++ entries_in (notes_made events (after_turn (turn_of repeat) s)))
    (entries_noted repeat (turn_answer (turn_of repeat) s))
    ∙ ap (λ entries. entries_of (turn_answer (turn_of repeat) s) ++ entries) (entries_are events (after_turn (turn_of repeat) s))

-- the sum of a number of each of the first so many
sum_is_total : (f : ℕ → ℕ) (count : ℕ) → sum (map f (range_with_len 0 count)) ≡ total count f
unfolding total
sum_is_total f zero = refl
sum_is_total f (suc count) =
    let next : count + 1 ≡ suc count = omega arith in
    subst (λ n. sum (map f (range_with_len 0 n)) ≡ total n f) next
    (sum_by-map-range_with_len_more (λ x. x) f 0 count count (omega arith) ∙ ap (λ n. n + f count) (sum_is_total f count)
    ∙ sym (total_more count f))

-- so all blocks are counted by what is told
told_counted : (sizes : Sizes) (history : List Entry) (end : CoreState) (numbers heads : List ℕ)
    → numbers ≡ map (kept end) (range_with_len 0 sizes.processes) → heads ≡ stack sizes end.words
    → total sizes.processes (kept end) + length (held history) + sizes.length * length (stack sizes end.words) ≡ blocks sizes
    → sum numbers + length (held history) + sizes.length * length heads ≡ blocks sizes
told_counted sizes history end numbers heads told shown all =
    ap (λ n. n + length (held history) + sizes.length * length heads) (ap sum told ∙ sum_is_total (kept end) sizes.processes)
    ∙ ap (λ h. total sizes.processes (kept end) + length (held history) + sizes.length * length h) shown
    ∙ all

-- what the calls of a replay give is one
pub is_replay : (schedule : Schedule) (sizes : Sizes) (s end : CoreState) (replayed : Replayed) → IsAsked schedule.shape sizes
    → IsRun sizes [] [] s → Makes (each_event schedule.lines) s end [] replayed.notes.items
    → replayed.tag ≡ state_number end → replayed.stack.items ≡ stack end.sizes end.words
    → replayed.kept.items ≡ map (kept end) (range_with_len 0 end.sizes.processes)
    → IsReplay schedule replayed
is_replay schedule sizes s end replayed asked opening_run makes tag heads numbers =
    let (words, opening, same, none) = runs_are_made sizes [] [] s opening_run in
    let at = is_opened sizes words s same in
    let events = each_event schedule.lines in
    let made = from_opening at makes in
    let run = the_run words opening made in
    let fits = run_sizes sizes (map turn_of (each_event schedule.lines)) (entries_in replayed.notes.items) end run in
    record {
      sizes = sizes;
      asked = asked;
      words = words;
      opening = opening;
      end = end;
      made = made;
      run = run;
      tag = tag;
      stack = heads ∙ ap (λ (x : Sizes). stack x end.words) fits;
      kept = numbers ∙ ap (λ (x : Sizes). map (kept end) (range_with_len 0 x.processes)) fits;
      legal = laws.histories_are_legal sizes (map turn_of (each_event schedule.lines)) (entries_in replayed.notes.items) end run;
      counted = told_counted sizes (entries_in replayed.notes.items) end replayed.kept.items replayed.stack.items
          (numbers ∙ ap (λ (x : Sizes). map (kept end) (range_with_len 0 x.processes)) fits)
          (heads ∙ ap (λ (x : Sizes). stack x end.words) fits)
          (laws.all_are_counted sizes (map turn_of (each_event schedule.lines)) (entries_in replayed.notes.items) end run);
    }
  where
    from_opening : {words : List ℕ} → s ≡ opened sizes words → Makes (each_event schedule.lines) s end [] replayed.notes.items
        → Makes (each_event schedule.lines) (opened sizes words) end [] replayed.notes.items
    from_opening e m = subst (λ (x : CoreState). Makes (each_event schedule.lines) x end [] replayed.notes.items) e m

    the_run : (words : List ℕ) → AreOpening sizes words
        → Makes (each_event schedule.lines) (opened sizes words) end [] replayed.notes.items
        → IsRun sizes (map turn_of (each_event schedule.lines)) (entries_in replayed.notes.items) end
    the_run words opening m =
        let run = runs_go_on sizes words (map turn_of (each_event schedule.lines)) asked.is opening in
        let entries = ap entries_in m.notes ∙ entries_are (each_event schedule.lines) (opened sizes words) in
        subst (λ (x : CoreState). IsRun sizes (map turn_of (each_event schedule.lines)) (entries_in replayed.notes.items) x) (sym m.state)
        (subst (λ (h : List Entry). IsRun sizes (map turn_of (each_event schedule.lines)) h
        (after_turns (map turn_of (each_event schedule.lines)) (opened sizes words))) (sym entries) run)
