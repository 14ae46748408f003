-- A removal: a timer is cut out of its list, and its object taken out of its place.
use Rattle.std.proofs.Common.{◌≡◌, ℕ, ◌+◌, ◌-◌, ◌<◌, ◌≤◌, ◌==◌, None, Some}
use Rattle.std.proofs.Common.{Option, List, ◌∷◌, ◌++◌, filter, length, set, sym}
use Rattle.std.proofs.Common.{ap, subst, ◌∙◌, arith}
use Rattle.block_pool.specs.Calls.{SamePass}
use Rattle.block_pool.specs.Passing.{Passed}
use Rattle.object_store.specs.Calls.{CountedWithin, KeepsOthers}
use Rattle.object_store.specs.Objects.{ObjectView}
use Rattle.timer_wheel.specs.declared.record.TimerRecord.{TimerRecord}
use Rattle.timer_wheel.specs.declared.changes.Placed.{Placed}
use Rattle.timer_wheel.specs.declared.chain.Chain.{Chain}
use Rattle.timer_wheel.specs.declared.chain.Spot.{Spot}
use Rattle.timer_wheel.specs.Backs.{AreBacks, backed}
use Rattle.timer_wheel.specs.Places.{Places, AreApart, IsChain, Leads, Stands, ends_at, ends_cut, in_list, list_of, object_at}
use Rattle.timer_wheel.specs.Places.{record_of, relinked}
use Rattle.timer_wheel.specs.Serving.{Serves}
use Rattle.timer_wheel.specs.Spots.{GoesOn, IsSpot}
use Rattle.timer_wheel.specs.Tables.{IsTable}
use Rattle.timer_wheel.proofs.Lists.{each_right, keep, some_before}
use Rattle.timer_wheel.proofs.Chains.{IsStanding, each_leads, relinked_length, same_record, within}
use Rattle.timer_wheel.proofs.Removing.{backs_removed, before_low, cut_stands, its_list, next_low, removed}
use Rattle.timer_wheel.proofs.Removing.{rest_leads, was_linked}
use Rattle.timer_wheel.proofs.Serving.{serves_both, serves_emptied, serves_most}

-- another link leaves each object its own block
pub apart_relinked : (before next : ℕ) (places : Places) → AreApart places → AreApart (relinked before next places)
apart_relinked before next places apart a b x y at_a at_b same =
    let wa = was_linked before next places a x at_a in
    let wb = was_linked before next places b y at_b in
    apart a b wa.0 wb.0 wa.1.0 wb.1.0 (wa.1.1 ∙ same ∙ sym wb.1.1)

module _ (places : Places) (free : List ℕ) (lists : List Chain) (running : List Placed) (count : ℕ)
    (table : IsTable places free lists running count) (spot : Spot) (is : IsSpot places (length lists) running spot) where
  abbrev t : Placed
  t = is.t

  abbrev next : ℕ
  next = spot.timer.next

  abbrev cut_places : Places
  cut_places = relinked spot.before next places

  -- at least one runs
  pub one : count - 1 + 1 ≡ count
  one = omega (
    arith,
    table.many,
    some_before (λ s. list_of (length lists) s == spot.list) running is.front is.t is.rest is.is.chain,
  )

  -- the link before leads to a place, if to anything
  pub cut_low : spot.before ≤ length places
  cut_low = before_low places free lists running count (count - 1) table spot.list spot.before next is.front is.t is.rest is.is.list
      is.is.chain is.is.before is.is.stands one

  -- so does the link behind
  pub cut_next : next ≤ length places
  cut_next = next_low places free lists running count (count - 1) table spot.list spot.before next is.front is.t is.rest is.is.list
      is.is.chain is.is.before is.is.stands one

  -- the timer stands at its place still when it is cut out
  pub stood : object_at cut_places spot.place ≡ Some (record { block = is.is.stands.block; value = record_of t next })
  stood = ap (object_at cut_places) is.is.place
      ∙ cut_stands places free lists running count (count - 1) table spot.list spot.before next is.front is.t is.rest is.is.list
      is.is.chain is.is.before is.is.stands one

  -- its place is one
  pub place_low : spot.place < length places
  place_low = subst (λ (q : ℕ). q < length places) (sym is.is.place) (within places is.t.place _ is.is.stands.at)

  -- so it is then
  pub cut_place_low : spot.place < length cut_places
  cut_place_low = subst (λ (n : ℕ). spot.place < n) (sym (relinked_length spot.before next places)) place_low

  number_is : spot.timer.number ≡ is.t.number
  number_is = ap (λ (r : TimerRecord). r.number) is.is.timer

  module _ (places' : Places) (free' : List ℕ) (lists' : List Chain) (running' : List Placed) (count' : ℕ)
      (places_is : places' ≡ set cut_places spot.place None) (free_is : free' ≡ set free (count - 1) spot.place)
      (lists_is : lists' ≡ set lists spot.list (ends_cut spot.before next (ends_at lists spot.list)))
      (running_is : running' ≡ filter (keep spot.timer.number) running) (count_is : count' ≡ count - 1) where
    at_place : places' ≡ set cut_places is.t.place None
    at_place = places_is ∙ ap (λ (q : ℕ). set cut_places q None) is.is.place

    kept_is : running' ≡ filter (keep is.t.number) running
    kept_is = running_is ∙ ap (λ (n : ℕ). filter (keep n) running) number_is

    -- the places are a table without the timer
    pub removed_table : IsTable places' free' lists' running' count'
    removed_table =
        let at_free : free' ≡ set free (count - 1) is.t.place = free_is ∙ ap (set free (count - 1)) is.is.place in
        subst (λ (p : Places). IsTable p free' lists' running' count') (sym at_place)
        (subst (λ (f : List ℕ). IsTable (set cut_places is.t.place None) f lists' running' count') (sym at_free)
        (subst (λ (l : List Chain). IsTable (set cut_places is.t.place None) (set free (count - 1) is.t.place) l running' count')
        (sym lists_is)
        (subst (λ (r : List Placed). IsTable (set cut_places is.t.place None) (set free (count - 1) is.t.place)
        (set lists spot.list (ends_cut spot.before next (ends_at lists spot.list))) r count') (sym kept_is)
        (subst (λ (n : ℕ). IsTable (set cut_places is.t.place None) (set free (count - 1) is.t.place)
        (set lists spot.list (ends_cut spot.before next (ends_at lists spot.list))) (filter (keep is.t.number) running) n) (sym count_is)
        (removed places free lists running count (count - 1) table spot.list spot.before next is.front is.t is.rest is.is.list
        is.is.chain is.is.before is.is.stands one)))))

    -- they have links back without it
    pub removed_backs : (backs backs' : List ℕ) → AreBacks backs (length places) (length lists) running
        → backs' ≡ backed next spot.before backs → AreBacks backs' (length places') (length lists') running'
    removed_backs backs backs' were linked =
        let here = backs_removed places free lists running count (count - 1) table spot.list spot.before next is.front is.t is.rest
        is.is.list is.is.chain is.is.before is.is.stands one backs were in
        subst (λ (b : List ℕ). AreBacks b (length places') (length lists') running') (sym linked)
        (subst (λ (p : Places). AreBacks (backed next spot.before backs) (length p) (length lists') running') (sym at_place)
        (subst (λ (l : List Chain). AreBacks (backed next spot.before backs) (length (set cut_places is.t.place None)) (length l) running')
        (sym lists_is)
        (subst (λ (r : List Placed). AreBacks (backed next spot.before backs) (length (set cut_places is.t.place None))
        (length (set lists spot.list (ends_cut spot.before next (ends_at lists spot.list)))) r) (sym kept_is) here)))

    -- whatever timers of its list stand around it, the walk goes on behind it
    pub removed_on : GoesOn spot places' (length lists) running running'
    removed_on front rest u chain led place =
        let ends = ends_at lists spot.list in
        let old : IsChain places ends (front ++ u ∷ rest)
        = subst (λ (ts : List Placed). IsChain places ends ts) chain (table.chains spot.list _ is.is.list) in
        let standing = (each_right (IsStanding places) front (u ∷ rest) (each_leads places (front ++ u ∷ rest) ends.first 0 old.leads)).0 in
        let same_place : u.place ≡ is.t.place = sym place ∙ is.is.place in
        let same : record_of u standing.0 ≡ record_of is.t next
        = same_record places u is.t standing.0 next standing.1 is.is.stands same_place in
        let stands : Stands places u next
        = subst (λ (n : ℕ). Stands places u n) (ap (λ (r : TimerRecord). r.next) same) standing.1 in
        let number : is.t.number ≡ u.number = sym (ap (λ (r : TimerRecord). r.number) same) in
        let kept : running' ≡ filter (keep u.number) running = kept_is ∙ ap (λ (n : ℕ). filter (keep n) running) number in
        let gone : places' ≡ set cut_places u.place None = at_place ∙ ap (λ (q : ℕ). set cut_places q None) (sym same_place) in (
          ap (in_list (length lists) spot.list) kept
              ∙ its_list places free lists running count (count - 1) table spot.list spot.before next front u rest is.is.list chain led
              stands one,
          subst (λ (p : Places). Leads p next rest 0) (sym gone)
              (rest_leads places free lists running count (count - 1) table spot.list spot.before next front u rest is.is.list chain led
              stands
              one),
        )

-- the cut and the take behind it
pub serves_remove : (quantum s u v count place : ℕ) (P Q : Places) (object : ObjectView TimerRecord) (given : Option (ObjectView
    TimerRecord))
    (a b c : Passed) → count - 1 + 1 ≡ count → Serves 8 0 s u P Q count count a b → AreApart Q → object_at Q place ≡ Some object
    → given ≡ None → SamePass b c → KeepsOthers object.block b c → length c.held + 1 ≡ length b.held
    → CountedWithin 5 (quantum + 1 + 4) u v b c → c.age ≤ b.age + 1
    → Serves (quantum + 13) 1 s v P (set Q place given) count (count - 1) a c
serves_remove quantum s u v count place P Q object given a b c one cut apart at none same keeps fewer counted age =
    subst (λ (o : Option (ObjectView TimerRecord)). Serves (quantum + 13) 1 s v P (set Q place o) count (count - 1) a c) (sym none)
    (serves_most (8 + (quantum + 5)) (quantum + 13) 1 s v P (set Q place None) count (count - 1) a c
    (serves_both 8 (quantum + 5) 0 1 s u v P Q (set Q place None) count count (count - 1) a b c cut
    (subst (λ (n : ℕ). Serves (quantum + 5) 1 u v Q (set Q place None) n (count - 1) b c) one
    (serves_emptied place (quantum + 5) u v (count - 1) Q object b c at cut.holds apart same keeps fewer
    (counted_at quantum u v b c counted) age)))
    (omega arith))
  where
    counted_at : (quantum u v : ℕ) (b c : Passed) → CountedWithin 5 (quantum + 1 + 4) u v b c → CountedWithin 0 (quantum + 5) u v b c
    counted_at quantum u v b c counted = record {
      made = counted.made;
      least = omega arith;
      most = omega (arith, counted.most);
      steps = counted.steps;
      moves = counted.moves;
    }
