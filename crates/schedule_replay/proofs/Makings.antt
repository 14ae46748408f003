-- Events that are made one after the other.
use Rattle.std.proofs.Common.{◌≡◌, ℕ, ◌+◌, ◌≤◌, List, [], ◌∷◌, ◌++◌, length, map, sum, None, Some, Option, refl, ap, sym, ◌∙◌}
use Rattle.std.proofs.Common.{append_assoc, append-nil, subst, take, get_or, ◌<◌, arith}
use Rattle.std.specs.List.{sum_by}
use Rattle.std.proofs.lemmas.List.{length-append, length-replicate, take_more}
use Rattle.std.proofs.lemmas.List.Folds.{length-flat_map-take}
use Rattle.std.proofs.lemmas.List.Sums.{sum_by-append}
use Rattle.std.proofs.lemmas.Grind.{replicate_next, flat_map-append}
use Rattle.std.specs.Prelude.{flat_map, replicate}
use Rattle.std.specs.Option.{option_to_list}
use Rattle.interleaving_core.specs.Moves.{CoreState}
use Rattle.interleaving_core.specs.Runs.{after_turn, turn_answer, entries_of}
use Rattle.interleaving_core.specs.TransferLaws.{after_turns, entries_made}
use Rattle.schedule_replay.specs.Reading.{events_in}
use Rattle.schedule_replay.proofs.Ages.{has_turns_fewer, has_turns_later}
use Rattle.schedule_replay.specs.Replays.{HasTurns, Makes, each_event, entries_in, note_of, notes_made, turn_of}
use Rattle.schedule_replay.specs.declared.notes.Note.{Note}
use Rattle.schedule_replay.specs.declared.schedule.Repeat.{Repeat}

-- none is made
pub makes_none : (s : CoreState) (notes : List Note) → Makes [] s s notes notes
unfolding after_turns notes_made
makes_none s notes = record { state = refl; notes = sym (append-nil notes) }

-- one is made
pub makes_one : (repeat : Repeat) (s after : CoreState) (old new : List Note) → after ≡ after_turn (turn_of repeat) s
    → new ≡ old ++ option_to_list (note_of repeat (turn_answer (turn_of repeat) s)) → Makes (repeat ∷ []) s after old new
unfolding after_turns notes_made
makes_one repeat s after old new state notes = record {
  state = state;
  notes = notes ∙ ap (λ more. old ++ more) (sym (append-nil (option_to_list (note_of repeat (turn_answer (turn_of repeat) s)))));
}

states_both : (first second : List Repeat) (s : CoreState)
    → after_turns (map turn_of (first ++ second)) s ≡ after_turns (map turn_of second) (after_turns (map turn_of first) s)
unfolding after_turns
states_both [] second s = refl
states_both (repeat ∷ first) second s = states_both first second (after_turn (turn_of repeat) s)

notes_both : (first second : List Repeat) (s : CoreState)
    → notes_made (first ++ second) s ≡ notes_made first s ++ notes_made second (after_turns (map turn_of first) s)
unfolding after_turns notes_made
notes_both [] second s = refl
notes_both (repeat ∷ first) second s =
    ap (λ more. option_to_list (note_of repeat (turn_answer (turn_of repeat) s)) ++ more) (notes_both first second (after_turn
    (turn_of repeat) s))
    ∙ sym (append_assoc (option_to_list (note_of repeat (turn_answer (turn_of repeat) s))) (notes_made first (after_turn
    (turn_of repeat) s)) _)

-- some are made, and then others
pub makes_both : (first second : List Repeat) (s between after : CoreState) (old middle new : List Note) → Makes first s between old middle
    → Makes second between after middle new → Makes (first ++ second) s after old new
makes_both first second s between after old middle new one two = record {
  state = two.state ∙ ap (after_turns (map turn_of second)) one.state ∙ sym (states_both first second s);
  notes =
      two.notes
      ∙ ap (λ notes. notes ++ notes_made second between) one.notes
      ∙ append_assoc old (notes_made first s) (notes_made second between)
      ∙ ap (λ state. old ++ (notes_made first s ++ notes_made second state)) one.state
      ∙ ap (λ notes. old ++ notes) (sym (notes_both first second s));
}

-- no note yet
pub makes_begun : (s : CoreState) (notes : List Note) → notes ≡ [] → Makes [] s s [] notes
makes_begun s notes none = subst (Makes [] s s []) (sym none) (makes_none s [])

-- a line's event once more
pub makes_more : (repeat : Repeat) (made : ℕ) (s now next : CoreState) (old notes more : List Note)
    → Makes (replicate made repeat) s now old notes → Makes (repeat ∷ []) now next notes more
    → Makes (replicate (made + 1) repeat) s next old more
makes_more repeat made s now next old notes more so_far one =
    let All : List Repeat → Type 0 = λ events. Makes events s next old more in
    subst All (sym (replicate_next made repeat)) (makes_both (replicate made repeat) (repeat ∷ []) s now next old notes more so_far one)

-- events that were made leave the others
pub turns_left : (events : List Repeat) (count all : ℕ) (s now : CoreState) (old new : List Note) → length events + count ≤ all
    → HasTurns all s → Makes events s now old new → HasTurns count now
turns_left events count all s now old new few has makes =
    subst (HasTurns count) (sym makes.state) (has_turns_later events count s (has_turns_fewer (length events + count) all s few has))

-- of a line's events one more
pub one_left : (repeat : Repeat) (made : ℕ) (s now : CoreState) (old new : List Note) → made < repeat.count → HasTurns repeat.count s
    → Makes (replicate made repeat) s now old new → HasTurns 1 now
one_left repeat made s now old new below has makes =
    turns_left (replicate made repeat) 1 repeat.count s now old new (omega (arith, below, length-replicate made repeat)) has makes

-- the events of lines are as many as they make
each_length : (lines : List Repeat) → length (each_event lines) ≡ events_in lines
each_length [] = refl
each_length (repeat ∷ lines) =
    omega (
      arith,
      length-append (replicate repeat.count repeat) (each_event lines),
      length-replicate repeat.count repeat,
      each_length lines,
      sum_by-append (λ (repeat : Repeat). repeat.count) (repeat ∷ []) lines,
    )

-- of all lines those of the next one
pub line_left : (lines : List Repeat) (i : ℕ) (d : Repeat) (s now : CoreState) (old new : List Note) → i < length lines
    → HasTurns (events_in lines) s → Makes (each_event (take i lines)) s now old new → HasTurns (get_or lines i d).count now
line_left lines i d s now old new below has makes =
    let line = get_or lines i d in
    turns_left (each_event (take i lines)) (get_or lines i d).count (events_in lines) s now old new
    (omega (
      arith,
      length-flat_map-take (λ (repeat : Repeat). replicate repeat.count repeat) lines i d below,
      length-replicate (get_or lines i d).count (get_or lines i d),
      each_length lines,
    ))
    has makes

-- the events of one line more
pub makes_line : (lines : List Repeat) (i : ℕ) (d : Repeat) (s now next : CoreState) (old notes more : List Note) → i < length lines
    → Makes (each_event (take i lines)) s now old notes
    → Makes (replicate (get_or lines i d).count (get_or lines i d)) now next notes more
    → Makes (each_event (take (i + 1) lines)) s next old more
makes_line lines i d s now next old notes more below so_far line =
    let All : List Repeat → Type 0 = λ events. Makes events s next old more in
    subst All (sym split)
    (makes_both (each_event (take i lines)) (replicate (get_or lines i d).count (get_or lines i d)) s now next old notes more so_far line)
  where
    split : each_event (take (i + 1) lines) ≡ each_event (take i lines) ++ replicate (get_or lines i d).count (get_or lines i d)
    split =
        ap each_event (take_more lines i d below)
        ∙ flat_map-append (λ (repeat : Repeat). replicate repeat.count repeat) (take i lines) (get_or lines i d ∷ [])
        ∙ ap (λ events. each_event (take i lines) ++ events) (append-nil (replicate (get_or lines i d).count (get_or lines i d)))
