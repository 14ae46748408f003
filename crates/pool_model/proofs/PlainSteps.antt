-- What a plain pool's calls make of the blocks that are held.
use Rattle.std.proofs.Common.{◌≡◌, ℕ, ◌+◌, ◌<◌, ◌≤◌, ◌↔◌, Bool, true, false, eqb, refl, sym, subst, inl}
use Rattle.std.proofs.Common.{inr, arith, List, [], ◌∷◌, ◌++◌, length, take, get_or, length-append}
use Rattle.std.specs.List.{Contains, list_any, IsDistinct}
use Rattle.std.proofs.lemmas.List.Elements.{Contains-append_left, Contains-push, Contains-push_cases}
use Rattle.std.proofs.lemmas.Bool.{cases_eq, cases_lt}
use Rattle.std.proofs.lemmas.Bool.Decides.{nat_tests}
use Rattle.pool_model.specs.declared.entry.Entry.{Entry}
use Rattle.pool_model.specs.declared.entry.Entry.TheVariants.{Got, Back, Dry}
use Rattle.pool_model.specs.Limits.{Limits}
use Rattle.pool_model.specs.History.{held, unheld}
use Rattle.pool_model.specs.Legal.{MayFollow}
use Rattle.pool_model.specs.Plain.{Plain, IsHeld, IsFull, Gives, Takes, IsLeftBy}
use Rattle.pool_model.proofs.Histories.{held_more, full_may_follow}
use Rattle.pool_model.proofs.Members.{contains_head, contains_tail, contains_cons_cases, contains_nil, contains_without, without_contains}
use Rattle.std.proofs.Common.{All}
use Rattle.std.specs.Cmp.{nat_eq_equiv}
use Rattle.std.proofs.lemmas.Bool.{eqb-true}
use Rattle.std.proofs.lemmas.List.{take_all, take_at, get_or_append_left, get_or_push}
use Rattle.std.proofs.lemmas.List.Elements.{All-push, All-take, All-contains, All-same}
use Rattle.std.proofs.lemmas.Map.Keys.{IsDistinct-push, apart_from_distinct, IsDistinct-from_apart}
use Rattle.std.proofs.lemmas.Map.Steps.{length-le_from_distinct_below, le-length_from_below}
use Rattle.std.proofs.lemmas.Map.Views.{Contains-from_any, list_any-from_Contains}
use Rattle.pool_model.specs.Kept.{IsKept}

-- an opened pool, which gave no block yet, keeps what it must where it has room for all blocks
pub kept_open : (blocks capacity : ℕ) → blocks ≤ capacity → IsKept blocks 0 [] capacity
unfolding IsDistinct
kept_open blocks capacity room = record { within = omega arith; below = λ k d lt. absurd (omega arith); once = tt; room = room }

-- a list of distinct numbers with its last left out
distinct_front : (rest : List ℕ) (block : ℕ) → IsDistinct eqb (rest ++ block ∷ []) → IsDistinct eqb rest
distinct_front rest block once = IsDistinct-from_apart eqb rest (λ i j d lt in'.
    rw (← get_or_append_left rest (block ∷ []) d i (omega arith), ← get_or_append_left rest (block ∷ []) d j in')
    (apart_from_distinct eqb (rest ++ block ∷ []) i j d once lt (omega (arith, length-append rest (block ∷ [])))))

-- the last of distinct numbers stands nowhere before
last_apart : (rest : List ℕ) (block : ℕ) → IsDistinct eqb (rest ++ block ∷ []) → ¬ Contains rest block
last_apart rest block once c =
    let apart : eqb (get_or (rest ++ block ∷ []) c.0 block) (get_or (rest ++ block ∷ []) (length rest) block) ≡ false
    = apart_from_distinct eqb (rest ++ block ∷ []) c.0 (length rest) block once c.1 (omega (arith, length-append rest (block ∷ []))) in
    let same : eqb block block ≡ false
    = rw (get_or_append_left rest (block ∷ []) block c.0 c.1, c.2, get_or_push rest block block (length rest) refl) at apart in
    grind (arith, nat_tests)

not_any : (block : ℕ) (xs : List ℕ) → ¬ Contains xs block → list_any (eqb block) xs ≡ false
not_any block xs out = go (list_any (eqb block) xs) (λ e. Contains-from_any eqb-true block xs e)
  where
    go : (t : Bool) → (t ≡ true → Contains xs block) → t ≡ false
    go true f = absurd (out (f refl))
    go false f = refl

kept_front : (blocks given capacity : ℕ) (rest : List ℕ) (block : ℕ) → IsKept blocks given (rest ++ block ∷ []) capacity
    → IsKept blocks given rest capacity
kept_front blocks given capacity rest block kept = record {
  within = kept.within;
  below =
      All-same (λ b. b < given) rest (take (length rest) (rest ++ block ∷ [])) (sym (take_at rest (block ∷ []) (length rest) refl))
      (All-take (λ b. b < given) (length rest) (rest ++ block ∷ []) kept.below);
  once = distinct_front rest block kept.once;
  room = kept.room;
}

-- a pool keeps what it must when the last block that came back is given again
pub kept_pop : (blocks given capacity : ℕ) (returned rest : List ℕ) (block : ℕ) → returned ≡ rest ++ block ∷ []
    → IsKept blocks given returned capacity
    → IsKept blocks given rest capacity
kept_pop blocks given capacity returned rest block same kept =
    kept_front blocks given capacity rest block (subst (λ (bs : List ℕ). IsKept blocks given bs capacity) same kept)

-- it keeps it when a held block comes back, as long as its room didn't shrink
pub kept_push : (blocks given capacity later : ℕ) (returned : List ℕ) (block : ℕ) → capacity ≤ later → block < given
    → ¬ Contains returned block → IsKept blocks given returned capacity
    → IsKept blocks given (returned ++ block ∷ []) later
kept_push blocks given capacity later returned block grown lt out kept = record {
  within = kept.within;
  below = All-push (λ b. b < given) returned block kept.below lt;
  once = IsDistinct-push nat_eq_equiv returned block kept.once (not_any block returned out);
  room = omega (arith, kept.room, grown);
}

-- a held block leaves room for itself among those that came back
pub has_room : (blocks given capacity : ℕ) (returned : List ℕ) (block : ℕ) → block < given → ¬ Contains returned block
    → IsKept blocks given returned capacity
    → length returned < capacity
has_room blocks given capacity returned block lt out kept =
    let more : IsKept blocks given (returned ++ block ∷ []) capacity =
    kept_push blocks given capacity capacity returned block (omega arith) lt out kept in
    omega (
      arith,
      length-append returned (block ∷ []),
      kept.room,
      kept.within,
      length-le_from_distinct_below (returned ++ block ∷ []) given more.once
          (λ q e. All-contains (λ b. b < given) _ q more.below (Contains-from_any eqb-true q _ e)),
    )

-- the pool gives the last block that came back
gives_front : (blocks given : ℕ) (rest : List ℕ) (block : ℕ) → given ≤ blocks → block < given → ¬ Contains rest block
    → Gives (record { blocks = blocks; given = given; returned = rest ++ block ∷ [] })
    (record { blocks = blocks; given = given; returned = rest }) block
gives_front blocks given rest block within lt out = record {
  within = omega arith;
  free = λ h. h.1 (Contains-push rest block);
  held = λ other. (
    (λ h. elim (cases_eq other block) [
      | inl e ↦ inr e
      | inr ne ↦ inl (h.0, λ c. elim (Contains-push_cases rest block other c) [ inl d ↦ h.1 d | inr e ↦ ne (sym e) ])
    ]),
    (elim [
      | inl h ↦ (h.0, λ c. h.1 (Contains-append_left rest (block ∷ []) other c))
      | inr e ↦ (omega (arith, e, lt), λ c. out (let P : ℕ → Type 0 = λ b. Contains rest b in subst P e c))
    ]),
  );
  blocks = refl;
}

-- where a block came back, a pool that keeps what it must gives the last that did
pub gives_last : (blocks given capacity : ℕ) (returned rest : List ℕ) (block : ℕ) → returned ≡ rest ++ block ∷ []
    → IsKept blocks given returned capacity
    → Gives (record { blocks = blocks; given = given; returned = returned })
    (record { blocks = blocks; given = given; returned = rest }) block
gives_last blocks given capacity returned rest block same kept =
    let whole : IsKept blocks given (rest ++ block ∷ []) capacity = subst (λ (bs : List ℕ). IsKept blocks given bs capacity) same kept in
    subst (λ (bs : List ℕ). Gives (record { blocks = blocks; given = given; returned = bs })
    (record { blocks = blocks; given = given; returned = rest }) block) (sym same)
    (gives_front blocks given rest block whole.within (All-contains (λ b. b < given) (rest ++ block ∷ []) block whole.below
    (Contains-push rest block)) (last_apart rest block whole.once))

-- a block that came back is not held
pub not_full : (blocks given capacity : ℕ) (returned rest : List ℕ) (block : ℕ) → returned ≡ rest ++ block ∷ []
    → IsKept blocks given returned capacity → IsFull (record { blocks = blocks; given = given; returned = returned })
    → ⊥
not_full blocks given capacity returned rest block same kept full =
    let there : Contains returned block = subst (λ (bs : List ℕ). Contains bs block) (sym same) (Contains-push rest block) in
    (full block (omega (arith, kept.within, All-contains (λ b. b < given) returned block kept.below there))).1 there

gives_number : (blocks given : ℕ) (returned : List ℕ) → given < blocks → All (λ b. b < given) returned
    → Gives (record { blocks = blocks; given = given; returned = returned })
    (record { blocks = blocks; given = given + 1; returned = returned }) given
gives_number blocks given returned lt below = record {
  within = lt;
  free = λ h. omega (arith, h.0);
  held = λ other. (
    (λ h. elim (cases_lt other given) [ inl k ↦ inl (k, h.1) | inr ge ↦ inr (omega (arith, h.0)) ]),
    (elim [
      | inl h ↦ (omega (arith, h.0), h.1)
      | inr e ↦ (omega (arith, e), λ c. let b : other < given = All-contains (λ b. b < given) returned other below c in omega (arith, e, b))
    ]),
  );
  blocks = refl;
}

-- the pool gives the next number
pub gives_next : (blocks given capacity : ℕ) (returned left : List ℕ) (old : Plain)
    → record { blocks = blocks; given = given; returned = returned } ≡ old → returned ≡ left → given < blocks
    → IsKept blocks given returned capacity
    → Gives old (record { blocks = blocks; given = given + 1; returned = left }) given
gives_next blocks given capacity returned left old is same lt kept =
    subst (λ (pool : Plain). Gives pool (record { blocks = blocks; given = given + 1; returned = left }) given) is
    (subst (λ (bs : List ℕ). Gives (record { blocks = blocks; given = given; returned = returned })
    (record { blocks = blocks; given = given + 1; returned = bs }) given) same
    (gives_number blocks given returned lt kept.below))

-- the pool takes a block back
pub takes_back : (blocks given : ℕ) (returned : List ℕ) (block : ℕ)
    → Takes (record { blocks = blocks; given = given; returned = returned })
    (record { blocks = blocks; given = given; returned = returned ++ block ∷ [] }) block
takes_back blocks given returned block = record {
  held = λ other. (
    (λ h. (
      (h.0, λ c. h.1 (Contains-append_left returned (block ∷ []) other c)),
      λ e. h.1 (let P : ℕ → Type 0 = λ b. Contains (returned ++ block ∷ []) b in subst P (sym e) (Contains-push returned block)),
    )),
    (λ h. (h.0.0, λ c. elim (Contains-push_cases returned block other c) [ inl d ↦ h.0.1 d | inr e ↦ h.1 (sym e) ])),
  );
  blocks = refl;
}

-- what an allocate that was given a block makes of the histories that left the pool so
pub left_by_got : (past : List Entry) (i block : ℕ) (old new : Plain) → IsLeftBy past old → Gives old new block
    → IsLeftBy (past ++ Got i block ∷ []) new
left_by_got past i block old new left gives other = (
  (λ c. elim (contains_cons_cases other block (held past)
      (let P : List ℕ → Type 0 = λ bs. Contains bs other in subst P (held_more past (Got i block)) c)) [
        | inl e ↦ (gives.held other).1 (inr (sym e))
        | inr d ↦ (gives.held other).1 (inl ((left other).0 d))
      ]),
  (λ h. let P : List ℕ → Type 0 = λ bs. Contains bs other in subst P (sym (held_more past (Got i block)))
      (elim ((gives.held other).0 h) [
        | inl d ↦ contains_tail other block (held past) ((left other).1 d)
        | inr e ↦ (let Q : ℕ → Type 0 = λ b. Contains (b ∷ held past) other in subst Q e (contains_head other (held past)))
      ])),
)

-- a refusal changes nothing
pub left_by_dry : (past : List Entry) (i : ℕ) (pool : Plain) → IsLeftBy past pool → IsLeftBy (past ++ Dry i ∷ []) pool
left_by_dry past i pool left other =
    let P : List ℕ → Type 0 = λ bs. Contains bs other ↔ IsHeld pool other in subst P (sym (held_more past (Dry i))) (left other)

-- what a free makes of the histories that left the pool so
pub left_by_back : (past : List Entry) (i block : ℕ) (old new : Plain) → IsLeftBy past old → Takes old new block
    → IsLeftBy (past ++ Back i block ∷ []) new
left_by_back past i block old new left takes other = (
  (λ c. let kept : Contains (held past) other × ¬ (other ≡ block) = contains_without block other (held past)
      (let P : List ℕ → Type 0 = λ bs. Contains bs other in subst P (held_more past (Back i block)) c) in
      (takes.held other).1 ((left other).0 kept.0, kept.1)),
  (λ h. let was : IsHeld old other × ¬ (other ≡ block) = (takes.held other).0 h in
      let P : List ℕ → Type 0 = λ bs. Contains bs other in
      subst P (sym (held_more past (Back i block))) (without_contains block other (held past) ((left other).1 was.0) was.1)),
)

-- a pool that no history has left yet
pub left_by_none : (blocks : ℕ) → IsLeftBy [] (record { blocks = blocks; given = 0; returned = [] })
left_by_none blocks other = ((λ c. absurd (contains_nil other c)), (λ h. absurd (omega (arith, h.0))))

-- where all blocks are held, a history that left the pool so holds as many
pub full_held : (past : List Entry) (pool : Plain) → IsLeftBy past pool → IsFull pool → pool.blocks ≤ length (held past)
full_held past pool left full =
    le-length_from_below (held past) pool.blocks (λ q lt. list_any-from_Contains nat_eq_equiv q (held past) ((left q).1 (full q lt)))

-- where all blocks are held, none is unheld
pub full_unheld : (limits : Limits) (past : List Entry) (pool : Plain) → limits.blocks ≡ pool.blocks → IsLeftBy past pool → IsFull pool
    → unheld limits past (length past) ≡ 0
full_unheld limits past pool same left full =
    rw (take_all (length past) past (omega arith)) (omega (arith, same, full_held past pool left full))

-- the entries of a plain pool's calls may follow
pub got_may_follow : (limits : Limits) (past : List Entry) (i block : ℕ) (old new : Plain) → i < limits.processes
    → limits.blocks ≡ old.blocks → IsLeftBy past old → Gives old new block
    → MayFollow limits past (Got i block)
got_may_follow limits past i block old new process same left gives =
    (process, omega (arith, same, gives.within), λ c. gives.free ((left block).0 c))

-- nor does a refusal ask more of the past than that all blocks are held
pub dry_may_follow : (limits : Limits) (past : List Entry) (i : ℕ) (pool : Plain) → i < limits.processes → 0 < limits.batch_length
    → limits.blocks ≡ pool.blocks → IsLeftBy past pool → IsFull pool
    → MayFollow limits past (Dry i)
dry_may_follow limits past i pool process long same left full =
    full_may_follow limits past i process long (full_unheld limits past pool same left full)
