-- The walk of a tick as a whole: the table stays one, and the pass is left well.
use Rattle.std.proofs.Common.{◌≡◌, ◌≢◌, ℕ, ◌+◌, ◌-◌, ◌*◌, ◌%◌, ◌<◌, ◌≤◌, List, []}
use Rattle.std.proofs.Common.{◌∷◌, ◌++◌, drop, filter, length, refl, sym, ap, subst, ◌∙◌, arith}
use Rattle.std.proofs.Common.{append-nil, length-append, get_or, set, map, Some, ◌==◌}
use Rattle.std.specs.Prelude.{Contains}
use Rattle.std.proofs.lemmas.List.{length-set}
use Rattle.std.proofs.lemmas.Nat.{mod_below, mul-le, row_fits}
use Rattle.word_layout.specs.Packing.{most_age}
use Rattle.pool_table.specs.Minds.{known_in}
use Rattle.block_pool.specs.Passing.{Passed, HasAge}
use Rattle.timer_wheel.specs.declared.record.TimerRecord.{TimerRecord}
use Rattle.timer_wheel.specs.declared.changes.Placed.{Placed}
use Rattle.timer_wheel.specs.declared.chain.Chain.{Chain}
use Rattle.timer_wheel.specs.Places.{Places, IsChain, in_list, list_of, value_at}
use Rattle.timer_wheel.specs.Ringing.{HandedOut, due_at, not_due_at, rung_at}
use Rattle.timer_wheel.specs.Serving.{AreHeld, Serves}
use Rattle.timer_wheel.specs.Spots.{GoesOn, IsSpot}
use Rattle.timer_wheel.specs.Tables.{IsTable}
use Rattle.timer_wheel.proofs.Finding.{filter_short}
use Rattle.timer_wheel.proofs.Lists.{filter_first, keep}
use Rattle.timer_wheel.proofs.Ringing.{Rings, due_in_list, is_due, none_due, rings_on, rings_out, rung_few}
use Rattle.timer_wheel.proofs.Serving.{are_held_moved, counted_most, serves_both, serves_none, serves_most}
use Rattle.timer_wheel.proofs.Walking.{Meets, WalksTo, meets, walk_begins, walk_ended}

-- so far: how many timers were looked at, each in a quantum of steps and seventeen at most
pub record Turns (moment list : ℕ) (P Q : Places) (free : List ℕ) (lists later : List Chain) (was running : List Placed) (count left : ℕ)
    (before at : ℕ) (empty out : List ℕ) (handed start steps : ℕ) (old new : Passed) : Type 0 where
  pub table : IsTable Q free later running left
  pub room : length Q ≡ length P
  pub many : length later ≡ length lists
  pub walked : ℕ
  pub rings : Rings moment (length lists) list was Q running before at empty out handed walked
  pub serves : Serves (walked * (old.sizes.quantum + 17)) walked start steps P Q count left old new
  pub long : length out ≡ length empty

-- the walk before its first step
pub turns_begin : (moment list : ℕ) (P : Places) (free : List ℕ) (lists : List Chain) (running : List Placed) (count first : ℕ)
    (out : List ℕ) (steps : ℕ) (pass : Passed) (ends : Chain) → IsTable P free lists running count → list ≡ moment % length lists
    → AreHeld P pass → ends ≡ get_or lists list ends → first ≡ ends.first
    → Turns moment list P P free lists lists running running count count 0 first out out 0 steps steps pass pass
turns_begin moment list P free lists running count first out steps pass ends table is held read e = record {
  table = table;
  room = refl;
  many = refl;
  walked = 0;
  rings = record {
    front = [];
    rest = in_list (length lists) list running;
    walk = subst (λ (f : ℕ). WalksTo P (in_list (length lists) list running) 0 f [] (in_list (length lists) list running)) (sym e)
        (walk_begins P ends (in_list (length lists) list running)
        (subst (λ (c : Chain). IsChain P c (in_list (length lists) list running)) (sym read)
        (table.chains list ends low)));
    due = sym (ap (λ (k : ℕ). filter (due_at moment) (in_list (length lists) k running)) is ∙ due_in_list moment (length lists) running);
    kept = refl;
    done = [];
    out_is = refl;
    many = refl;
    rung = refl;
    few = omega (arith, filter_short (λ t. list_of (length lists) t == list) running);
  };
  serves = serves_most 0 (0 * (pass.sizes.quantum + 17)) 0 steps steps P P count count pass pass
      (serves_none 0 steps count P pass held) (omega arith);
  long = refl;
}
  where
    low : list < length lists
    low = subst (λ (k : ℕ). k < length lists) (sym is) (mod_below moment (length lists) (omega (arith, table.some)))

-- the walk is at its end
pub turns_left : (moment list : ℕ) (P Q : Places) (free : List ℕ) (lists later : List Chain) (was running : List Placed) (count left : ℕ)
    (before at : ℕ) (empty out : List ℕ) (handed start steps : ℕ) (old new : Passed)
    → Turns moment list P Q free lists later was running count left before at empty out handed start steps old new → at ≡ 0
    → running ≡ filter (not_due_at moment) was
turns_left moment list P Q free lists later was running count left before at empty out handed start steps old new turns e =
    let r = turns.rings in
    let none : r.rest ≡ [] = walk_ended Q (in_list (length lists) list running) before at r.front r.rest r.walk e in
    none_due moment running (r.due ∙ ap (filter (due_at moment)) none) ∙ r.kept

-- and all that were due are handed out
pub turns_rung : (moment list : ℕ) (P Q : Places) (free : List ℕ) (lists later : List Chain) (was running : List Placed) (count left : ℕ)
    (before at : ℕ) (empty out : List ℕ) (handed start steps : ℕ) (old new : Passed)
    → Turns moment list P Q free lists later was running count left before at empty out handed start steps old new → at ≡ 0
    → HandedOut (rung_at moment was) empty out handed
turns_rung moment list P Q free lists later was running count left before at empty out handed start steps old new turns e =
    let r = turns.rings in
    let none : r.rest ≡ [] = walk_ended Q (in_list (length lists) list running) before at r.front r.rest r.walk e in
    let nothing : filter (due_at moment) running ≡ [] = r.due ∙ ap (filter (due_at moment)) none in
    let all : r.done ≡ rung_at moment was
    = sym (append-nil r.done) ∙ ap (λ (q : List Placed). r.done ++ map (λ t. t.payload) q) (sym nothing) ∙ r.rung in
    record {
      first = r.out_is ∙ ap (λ (d : List ℕ). d ++ drop (length d) empty) all;
      many = r.many ∙ ap length all;
    }

-- a part whose steps and transfers are at most so many
pub serves_within : (m n i j s t : ℕ) (P Q : Places) (x y : ℕ) (a b : Passed) → Serves m i s t P Q x y a b → m ≤ n → i ≤ j
    → Serves n j s t P Q x y a b
serves_within m n i j s t P Q x y a b one more older = record {
  same = one.same;
  holds = one.holds;
  blocks = one.blocks;
  far = one.far;
  steps = counted_most 0 m n s t a b one.steps more;
  age = omega (arith, one.age, older);
}

-- what it did to the pass is within the bounds
pub turns_serves : (moment list : ℕ) (P Q : Places) (free : List ℕ) (lists later : List Chain) (was running : List Placed) (count left : ℕ)
    (before at : ℕ) (empty out : List ℕ) (handed start steps : ℕ) (old new : Passed)
    → Turns moment list P Q free lists later was running count left before at empty out handed start steps old new → length was ≡ count
    → Serves (count * (old.sizes.quantum + 17)) count start steps P Q count left old new
turns_serves moment list P Q free lists later was running count left before at empty out handed start steps old new turns many =
    let each : ℕ = old.sizes.quantum + 17 in
    let few : turns.walked ≤ count = omega (arith, turns.rings.few, many) in
    serves_within (turns.walked * each) (count * each) turns.walked count start steps P Q count left old new turns.serves
    (mul-le turns.walked each count each few (omega arith)) few

-- ---- one timer more

-- a read that makes four steps leaves all but moves
pub serves_read : (s t runs : ℕ) (Q : Places) (a b : Passed) → AreHeld Q a → b ≡ record a { moves = a.moves + 4 } → t ≡ s + 4
    → Serves 4 0 s t Q Q runs runs a b
serves_read s t runs Q a b held is steps =
    let moves : b.moves ≡ a.moves + 4 = ap (λ (p : Passed). p.moves) is in
    let age : b.age ≡ a.age = ap (λ (p : Passed). p.age) is in
    let blocks : b.held ≡ a.held = ap (λ (p : Passed). p.held) is in
    record {
      same = record {
        table = ap (λ (p : Passed). p.table) is;
        sizes = ap (λ (p : Passed). p.sizes) is;
        number = ap (λ (p : Passed). p.number) is;
      };
      holds = are_held_moved Q (a.moves + 4) a b is held;
      blocks = ap (λ (bs : List ℕ). length bs + runs) blocks;
      far = record {
        far = λ other far was. far;
        held = λ other far was. subst (λ (bs : List ℕ). Contains bs other) (sym blocks) was;
        known = λ other far was index. ap (λ (p : Passed). known_in p.known other index) is;
      };
      steps = record { made = 4; least = omega arith; most = omega arith; steps = steps; moves = moves };
      age = omega (arith, age);
    }

-- so many times as much, and once more
pub times_more : (walked each : ℕ) → walked * each + each ≤ (walked + 1) * each
times_more walked each = row_fits walked each (walked + 1) each (omega arith) (omega arith)

module _ (moment list : ℕ) (P Q : Places) (free : List ℕ) (lists later : List Chain) (was running : List Placed) (count left : ℕ)
    (before at : ℕ) (empty out : List ℕ) (handed start steps : ℕ) (old new : Passed)
    (turns : Turns moment list P Q free lists later was running count left before at empty out handed start steps old new)
    (some : at ≢ 0) (timer : TimerRecord) (read : value_at Q (at - 1) ≡ Some timer) where
  met : Meets Q at turns.rings.rest timer
  met = meets Q at turns.rings.rest timer some turns.rings.walk.leads read

  -- it is one of those that ran
  pub one_more : turns.walked + 1 ≤ length was
  one_more =
      let size : length turns.rings.rest ≡ length (met.t ∷ met.more) = ap length met.is in omega (arith, size, turns.rings.few)

  -- the timer isn't due
  pub turns_on : (after : Passed) (steps' : ℕ) → timer.due ≢ moment → after ≡ record new { moves = new.moves + 4 } → steps' ≡ steps + 4
      → Turns moment list P Q free lists later was running count left at timer.next empty out handed start steps' old after
  turns_on after steps' ne pass counted = record {
    table = turns.table;
    room = turns.room;
    many = turns.many;
    walked = turns.walked + 1;
    rings = rings_on moment (length lists) list was Q running before at empty out handed turns.walked timer turns.rings met ne;
    serves =
        let each : ℕ = old.sizes.quantum + 17 in
        serves_within (turns.walked * each + 4) ((turns.walked + 1) * each) (turns.walked + 0) (turns.walked + 1) start steps' P Q count
        left
        old after
        (serves_both (turns.walked * each) 4 turns.walked 0 start steps steps' P Q Q count left left old new after turns.serves
        (serves_read steps steps' left Q new after turns.serves.holds pass counted))
        (omega (arith, times_more turns.walked each)) (omega arith);
    long = turns.long;
  }

  -- the timer is due, and was removed
  pub turns_out : (mid after : Passed) (steps' steps'' left' handed' : ℕ) (Q' : Places) (free' : List ℕ) (later' : List Chain)
      (running' : List Placed) (out' : List ℕ) → timer.due ≡ moment → length was ≤ length empty
      → mid ≡ record new { moves = new.moves + 4 } → steps' ≡ steps + 4
      → IsTable Q' free' later' running' left' → length Q' ≡ length Q → length later' ≡ length later
      → running' ≡ filter (keep timer.number) running
      → GoesOn (record { list = list; before = before; place = at - 1; timer = timer }) Q' (length later) running running'
      → Serves (mid.sizes.quantum + 13) 1 steps' steps'' Q Q' left left' mid after
      → out' ≡ set out handed timer.payload → handed' ≡ handed + 1
      → Turns moment list P Q' free' lists later' was running' count left' before timer.next empty out' handed' start steps'' old after
  turns_out mid after steps' steps'' left' handed' Q' free' later' running' out' due long pass counted table room many kept goes serves
      written one =
      let each : ℕ = old.sizes.quantum + 17 in
      let quantum : mid.sizes.quantum ≡ old.sizes.quantum
      = ap (λ (p : Passed). p.sizes.quantum) pass ∙ ap (λ z. z.quantum) turns.serves.same.sizes in
      let goes_on = subst (λ (n : ℕ). GoesOn (record { list = list; before = before; place = at - 1; timer = timer }) Q' n running running')
      turns.many goes in
      let goes_now = subst (λ (r : List Placed). GoesOn (record { list = list; before = before; place = at - 1; timer = timer }) Q'
      (length lists) running r) kept goes_on in
      let rings = rings_out moment (length lists) list was Q Q' running before at empty out handed turns.walked timer turns.rings met due
      turns.table.distinct long goes_now in
      record {
        table = table;
        room = room ∙ turns.room;
        many = many ∙ turns.many;
        walked = turns.walked + 1;
        rings = subst (λ (r : List Placed). Rings moment (length lists) list was Q' r before timer.next empty out' handed' (turns.walked
            + 1))
            (sym kept)
            (subst (λ (o : List ℕ). Rings moment (length lists) list was Q' (filter (keep timer.number) running) before timer.next empty o
            handed' (turns.walked + 1)) (sym written)
            (subst (λ (n : ℕ). Rings moment (length lists) list was Q' (filter (keep timer.number) running) before timer.next empty
            (set out handed timer.payload) n (turns.walked + 1)) (sym one) rings));
        serves = serves_within (turns.walked * each + 4 + (mid.sizes.quantum + 13)) ((turns.walked + 1) * each) (turns.walked + 0 + 1)
            (turns.walked + 1) start steps'' P Q' count left' old after
            (serves_both (turns.walked * each + 4) (mid.sizes.quantum + 13) (turns.walked + 0) 1 start steps' steps'' P Q Q' count left
            left'
            old mid after
            (serves_both (turns.walked * each) 4 turns.walked 0 start steps steps' P Q Q count left left old new mid turns.serves
            (serves_read steps steps' left Q new mid turns.serves.holds pass counted)) serves)
            (omega (arith, times_more turns.walked each, quantum)) (omega arith);
        long = ap length written ∙ length-set out handed timer.payload ∙ turns.long;
      }

  -- there is room for its steps
  pub turns_room : length was ≡ count → steps + (old.sizes.quantum + 17) ≤ start + count * (old.sizes.quantum + 17)
  turns_room many =
      let each : ℕ = old.sizes.quantum + 17 in
      let fits = row_fits turns.walked each count each (omega (arith, one_more, many)) (omega arith) in
      omega (arith, fits, turns.serves.steps.most, turns.serves.steps.steps)

  -- the pass may make one transfer more
  pub turns_young : length was ≡ count → old.age + count ≤ most_age old.sizes → HasAge new
  turns_young many young =
      let sizes = turns.serves.same.sizes in
      let low : new.age < most_age old.sizes = omega (arith, turns.serves.age, one_more, many, young) in
      λ due. subst (λ z. new.age < most_age z) (sym sizes) low

  -- fewer were handed out than ran
  pub turns_few : timer.due ≡ moment → handed < length was
  turns_few due =
      let r = turns.rings in
      let t = met.t in
      let is_now : t.due ≡ moment = sym (ap (λ (q : TimerRecord). q.due) met.timer_is) ∙ due in
      let first : filter (due_at moment) running ≡ t ∷ filter (due_at moment) met.more
      = r.due ∙ ap (filter (due_at moment)) met.is ∙ filter_first (due_at moment) t met.more (is_due moment t is_now) in
      let all : r.done ++ t.payload ∷ rung_at moment met.more ≡ rung_at moment was
      = ap (λ (q : List Placed). r.done ++ map (λ s. s.payload) q) (sym first) ∙ r.rung in
      let total : length (r.done ++ t.payload ∷ rung_at moment met.more) ≡ length (rung_at moment was) = ap length all in
      omega (arith, total, length-append r.done (t.payload ∷ rung_at moment met.more), rung_few moment was, r.many)

  -- there is an item for it
  pub turns_item : length was ≤ length empty → timer.due ≡ moment → handed < length out
  turns_item long due = omega (arith, turns_few due, long, turns.long)

  -- its spot
  pub turns_spot : list < length later
      → IsSpot Q (length later) running (record { list = list; before = before; place = at - 1; timer = timer })
  turns_spot low = record {
    front = turns.rings.front;
    t = met.t;
    rest = met.more;
    is = record {
      list = low;
      chain = ap (λ (n : ℕ). in_list n list running) turns.many ∙ turns.rings.walk.all
          ∙ ap (λ (r : List Placed). turns.rings.front ++ r) met.is;
      before = turns.rings.walk.last;
      place = omega (arith, met.place);
      timer = met.timer_is;
      stands = met.stands;
    };
  }
