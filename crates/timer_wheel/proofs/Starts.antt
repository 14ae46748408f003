-- A start: a new object at a free place, and its timer at the end of its list.
use Rattle.std.proofs.Common.{◌≡◌, ◌≢◌, ℕ, ◌+◌, ◌%◌, ◌<◌, ◌≤◌, Some, List}
use Rattle.std.proofs.Common.{[], ◌∷◌, ◌++◌, length, set, get_or, sym, ap, subst, ◌∙◌, arith}
use Rattle.std.specs.Prelude.{slice_index, Contains}
use Rattle.std.proofs.lemmas.Nat.{mod_below}
use Rattle.std.proofs.lemmas.List.{get_or_default, length-set}
use Rattle.pool_model.specs.declared.entry.Entry.TheVariants as entry
use Rattle.block_pool.specs.Calls.{Entered, SamePass}
use Rattle.block_pool.specs.Passing.{Passed}
use Rattle.object_store.specs.Calls.{CountedWithin}
use Rattle.object_store.specs.Objects.{HoldsWords, ObjectView}
use Rattle.object_store.specs.Putting.{IsStored}
use Rattle.timer_wheel.specs.declared.record.TimerRecord.{TimerRecord}
use Rattle.timer_wheel.specs.declared.changes.Placed.{Placed}
use Rattle.timer_wheel.specs.declared.chain.Chain.{Chain}
use Rattle.timer_wheel.specs.Backs.{AreBacks, backed}
use Rattle.timer_wheel.specs.Places.{Places, AreApart, ends_at, ends_joined, list_of, object_at, record_of, relinked}
use Rattle.timer_wheel.specs.Serving.{AreHeld, IsFar, Serves}
use Rattle.timer_wheel.specs.Tables.{AreBelow, IsTable}
use Rattle.timer_wheel.specs.Views.{words_of}
use Rattle.timer_wheel.proofs.Joining.{apart_filled, backs_started, last_low, started, joined_length}
use Rattle.timer_wheel.proofs.Serving.{counted_most, serves_filled, serves_both, serves_most}

-- a block that the pass didn't hold is none of the places'
pub fresh_block : (P : Places) (block : ℕ) (a : Passed) → AreHeld P a → ¬ Contains a.held block → IsFar P block
fresh_block P block a held fresh place other at e = fresh (subst (Contains a.held) e (held place other at).held)

module _ (places : Places) (free : List ℕ) (lists : List Chain) (running : List Placed) (count : ℕ)
    (table : IsTable places free lists running count) (timer : TimerRecord) (object : ObjectView TimerRecord) (place s u quantum : ℕ)
    (a b : Passed) (stored : IsStored 4 words_of timer a b object) (entered : Entered (entry.Got a.number object.block) a b)
    (same : SamePass a b) (counted : CountedWithin 5 (quantum + 5) s u a b) (age : b.age ≤ a.age + 1) (held : AreHeld places a)
    (room : count ≢ length places) (read : place ≡ get_or free count place) (next : timer.next ≡ 0)
    (below : AreBelow timer.number running) where
  abbrev t : Placed
  t = record { number = timer.number; due = timer.due; payload = timer.payload; place = place }

  is : object.value ≡ record_of t 0
  is = stored.value ∙ ap (λ (n : ℕ). record timer { next = n }) next

  more : count < length places
  more = omega (arith, room, table.few)

  free_low : count < length free
  free_low = omega (arith, more, table.frees.all)

  at : place ≡ slice_index free count
  at = read ∙ get_or_default free count place 0 free_low

  -- the free place is one
  pub place_low : place < length places
  place_low = subst (λ (q : ℕ). q < length places) (sym at) (table.frees.within count (omega arith) free_low)

  fresh : IsFar places object.block
  fresh = fresh_block places object.block a held stored.fresh

  low : list_of (length lists) t < length lists
  low = mod_below timer.due (length lists) (omega (arith, table.some))

  -- what the put did to the pass
  pub serves_put : Serves (quantum + 5) 1 s u places (set places place (Some object)) count (count + 1) a b
  serves_put =
      serves_filled place (quantum + 5) s u count places object a b place_low
      (ap (object_at places) at ∙ table.frees.empty count (omega arith) free_low) held same stored.fresh
      (subst (λ (v : TimerRecord). HoldsWords 4 (words_of v) object.block b) (sym stored.value) stored.holds) stored.others
      entered.held (counted_most 5 (quantum + 5) (quantum + 5) s u a b counted (omega arith)) age

  -- each object has a block of its own
  pub put_apart : AreApart (set places place (Some object))
  put_apart = apart_filled places free lists running count table t object is more at fresh below low

  -- the link to the last of the timer's list leads to a place
  pub put_last : (list : ℕ) → list ≡ timer.due % length lists → (ends_at lists list).last ≤ length (set places place (Some object))
  put_last list e =
      subst (λ (l : ℕ). (ends_at lists l).last ≤ length (set places place (Some object))) (sym e)
      (last_low places free lists running count table t object is more at fresh below low)

  module _ (list : ℕ) (list_is : list ≡ timer.due % length lists) (places' : Places) (free' : List ℕ) (lists' : List Chain)
      (running' : List Placed) (count' : ℕ)
      (places_is : places' ≡ relinked (ends_at lists list).last (place + 1) (set places place (Some object)))
      (lists_is : lists' ≡ set lists list (ends_joined (place + 1) (ends_at lists list))) (free_is : free' ≡ free)
      (running_is : running' ≡ running ++ t ∷ []) (count_is : count' ≡ count + 1) where
    joined_is : places' ≡ relinked (ends_at lists (timer.due % length lists)).last (place + 1) (set places place (Some object))
    joined_is = places_is ∙ ap (λ (l : ℕ). relinked (ends_at lists l).last (place + 1) (set places place (Some object))) list_is

    -- the places are as many
    pub put_room : length places' ≡ length places
    put_room = ap length joined_is ∙ joined_length places free lists running count table t object is more at fresh below low

    -- they are a table with the timer
    pub put_table : IsTable places' free' lists' running' count'
    put_table =
        let ends_is : lists' ≡ set lists (timer.due % length lists) (ends_joined (place + 1) (ends_at lists (timer.due % length lists)))
        = lists_is ∙ ap (λ (l : ℕ). set lists l (ends_joined (place + 1) (ends_at lists l))) list_is in
        subst (λ (p : Places). IsTable p free' lists' running' count') (sym joined_is)
        (subst (λ (f : List ℕ). IsTable (relinked (ends_at lists (timer.due % length lists)).last (place + 1)
        (set places place (Some object))) f lists' running' count') (sym free_is)
        (subst (λ (l : List Chain). IsTable (relinked (ends_at lists (timer.due % length lists)).last (place + 1)
        (set places place (Some object))) free l running' count') (sym ends_is)
        (subst (λ (r : List Placed). IsTable (relinked (ends_at lists (timer.due % length lists)).last (place + 1)
        (set places place (Some object))) free
        (set lists (timer.due % length lists) (ends_joined (place + 1) (ends_at lists (timer.due % length lists)))) r count') (sym
        running_is)
        (subst (λ (n : ℕ). IsTable (relinked (ends_at lists (timer.due % length lists)).last (place + 1)
        (set places place (Some object))) free
        (set lists (timer.due % length lists) (ends_joined (place + 1) (ends_at lists (timer.due % length lists)))) (running ++ t ∷ []) n)
        (sym count_is) (started places free lists running count table t object is more at fresh below low)))))

    -- they have links back with it
    pub put_backs : (backs backs' : List ℕ) → AreBacks backs (length places) (length lists) running
        → backs' ≡ backed (place + 1) (ends_at lists list).last backs → AreBacks backs' (length places') (length lists') running'
    put_backs backs backs' were linked =
        let here = backs_started places free lists running count table t object is more at fresh below low backs were in
        let is_now : backs' ≡ backed (place + 1) (ends_at lists (timer.due % length lists)).last backs
        = linked ∙ ap (λ (l : ℕ). backed (place + 1) (ends_at lists l).last backs) list_is in
        let many : length lists' ≡ length lists =
        ap length lists_is ∙ length-set lists list (ends_joined (place + 1) (ends_at lists list)) in
        let same : length (set lists (timer.due % length lists) (ends_joined (place + 1) (ends_at lists (timer.due % length lists))))
        ≡ length lists =
        length-set lists (timer.due % length lists) (ends_joined (place + 1) (ends_at lists (timer.due % length lists))) in
        subst (λ (b : List ℕ). AreBacks b (length places') (length lists') running') (sym is_now)
        (subst (λ (p : Places). AreBacks (backed (place + 1) (ends_at lists (timer.due % length lists)).last backs) (length p)
        (length lists') running') (sym joined_is)
        (subst (λ (r : List Placed). AreBacks (backed (place + 1) (ends_at lists (timer.due % length lists)).last backs)
        (length (relinked (ends_at lists (timer.due % length lists)).last (place + 1) (set places place (Some object))))
        (length lists') r) (sym running_is)
        (subst (λ (m : ℕ). AreBacks (backed (place + 1) (ends_at lists (timer.due % length lists)).last backs)
        (length (relinked (ends_at lists (timer.due % length lists)).last (place + 1) (set places place (Some object))))
        m (running ++ t ∷ [])) (same ∙ sym many) here)))

-- the put and the link behind it
pub serves_start : (quantum s u v count count' : ℕ) (P Q R : Places) (a b c : Passed) → Serves (quantum + 5) 1 s u P Q count (count + 1) a b
    → Serves 8 0 u v Q R (count + 1) (count + 1) b c → count' ≡ count + 1 → Serves (quantum + 13) 1 s v P R count count' a c
serves_start quantum s u v count count' P Q R a b c one other e =
    subst (λ (n : ℕ). Serves (quantum + 13) 1 s v P R count n a c) (sym e)
    (serves_most (quantum + 5 + 8) (quantum + 13) 1 s v P R count (count + 1) a c
    (serves_both (quantum + 5) 8 1 0 s u v P Q R count (count + 1) (count + 1) a b c one other) (omega arith))
