-- who holds each block is what the history says
use Rattle.std.proofs.Common.{◌≡◌, ◌≢◌, ℕ, ◌<◌, true, Option, None, Some, List, [], ◌∷◌, ◌++◌, length, take, set, get_or, get_or-set_same}
use Rattle.std.proofs.Common.{get_or-set_other, length-set, append-nil, refl, sym, ◌∙◌, ap, subst, inl, inr, arith}
use Rattle.std.specs.Prelude.{replicate, slice_get, Contains}
use Rattle.std.proofs.lemmas.Bool.{cases_eq, cases_lt}
use Rattle.std.proofs.lemmas.Bool.Decides.{nat_tests}
use Rattle.std.proofs.lemmas.List.{take-append-le, take_all, get_or-replicate, length-replicate, get_or_past}
use Rattle.word_layout.specs.Sizes.{Sizes, blocks, limits_of}
use Rattle.pool_model.specs.declared.entry.Entry.{Entry}
use Rattle.pool_model.specs.declared.entry.Entry.TheVariants.{Got, Back, Dry}
use Rattle.pool_model.specs.History.{own, held, grip}
use Rattle.pool_model.specs.Legal.{MayFollow, IsLegal}
use Rattle.pool_model.specs.Limits.{Limits}
use Rattle.pool_model.proofs.Histories.{own_grip_more, own_grip_other, legal_take}
use Rattle.pool_model.proofs.Members.{contains_head, contains_tail, contains_cons_cases, contains_nil, contains_without, without_contains}
use Rattle.pool_machine.specs.declared.call.Call.{Call}
use Rattle.pool_machine.specs.declared.call.Call.TheVariants.{Allocate, Free, Read, Write, Search}
use Rattle.batch_invariant.specs.Batches.{ProcessViews}
use Rattle.history_invariant.proofs.Grips.{grip_all}
use Rattle.history_invariant.proofs.Shared.{legal_shared}
use Rattle.history_invariant.proofs.Times.{times_contained, contained_times}
use Rattle.pool_machine.specs.declared.event.Happened.{Happened}
use Rattle.pool_machine.specs.declared.event.Happened.TheVariants.{Step, Ended, Loaded, Stored, Ignored}
use Rattle.interleaving_core.specs.Invariant.{MeetsInvariant, BlockIsHeld}
use Rattle.interleaving_core.specs.Moves.{is_holder, holds_for, holders_after, holders_entered}
use Rattle.interleaving_core.specs.Runs.{entries_of}

-- each block has one entry in the list, which names a process exactly where that process, one of the shape, holds the block after the
-- history
pub record HoldersFit (sizes : Sizes) (history : List Entry) (holders : List (Option ℕ)) : Type 0 where
  pub size : length holders ≡ blocks sizes
  pub low : (i block : ℕ) → is_holder i (get_or holders block None) ≡ true → i < sizes.processes
  pub truly : (i block : ℕ) → is_holder i (get_or holders block None) ≡ true → Contains (grip (own history i)) block
  pub all : (i block : ℕ) → Contains (grip (own history i)) block → is_holder i (get_or holders block None) ≡ true

-- a process is named or not
holder_is : (i by : ℕ) → is_holder i (Some by) ≡ true → i ≡ by
holder_is i by e = grind (arith, nat_tests)

is_named : (i by : ℕ) → i ≡ by → is_holder i (Some by) ≡ true
is_named i by e = grind (arith, nat_tests)

none_named : (i : ℕ) → is_holder i None ≡ true → ⊥
none_named i e = grind arith

one_named : (i o : ℕ) (holder : Option ℕ) → is_holder i holder ≡ true → is_holder o holder ≡ true → o ≡ i
one_named i o None e f = absurd (none_named i e)
one_named i o (Some by) e f = holder_is o by f ∙ sym (holder_is i by e)

-- at the opening nobody holds a block
opened_names : (n i block : ℕ) → is_holder i (get_or (replicate n None) block None) ≡ true → ⊥
opened_names n i block e = none_named i (sym (ap (is_holder i) (opened_none n block)) ∙ e)
  where
    opened_none : (n block : ℕ) → get_or (replicate {A = Option ℕ} n None) block None ≡ None
    opened_none n block = elim (cases_lt block n) [
      | inl lt ↦ get_or-replicate n block None None lt
      | inr ge ↦ get_or_past (replicate {A = Option ℕ} n None) block None (rw (length-replicate {A = Option ℕ} n None) ge)
    ]

-- at the opening nobody holds a block
pub opened_holders : (sizes : Sizes) → HoldersFit sizes [] (replicate (blocks sizes) None)
opened_holders sizes = record {
  size = length-replicate (blocks sizes) None;
  low = λ i block e. absurd (opened_names (blocks sizes) i block e);
  truly = λ i block e. absurd (opened_names (blocks sizes) i block e);
  all = λ i block has. absurd (contains_nil block has);
}

-- the last entry of a legal history may follow the others, which are legal
last_at : (history : List Entry) (entry : Entry) → slice_get (history ++ entry ∷ []) (length history) ≡ Some entry
last_at [] entry = refl
last_at (first ∷ rest) entry = last_at rest entry

all_before : (history : List Entry) (entry : Entry) → take (length history) (history ++ entry ∷ []) ≡ history
all_before history entry =
    take-append-le (length history) history (entry ∷ []) (omega arith) ∙ take_all (length history) history (omega arith)

last_follows : (limits : Limits) (history : List Entry) (entry : Entry) → IsLegal limits (history ++ entry ∷ [])
    → MayFollow limits history entry
last_follows limits history entry legal =
    subst (λ past. MayFollow limits past entry) (all_before history entry) (rw (last_at history entry) at (legal.follows (length history)))

past_is_legal : (limits : Limits) (history : List Entry) (entry : Entry) → IsLegal limits (history ++ entry ∷ []) → IsLegal limits history
past_is_legal limits history entry legal =
    subst (IsLegal limits) (all_before history entry) (legal_take limits (history ++ entry ∷ []) (length history) legal)

-- what a process holds is held
grip_is_held : (limits : Limits) (history : List Entry) (i block : ℕ) → IsLegal limits history → i < limits.processes
    → Contains (grip (own history i)) block → Contains (held history) block
grip_is_held limits history i block legal li has =
    let some = times_contained block (grip (own history i)) has in
    let all = grip_all limits i block (held history) (λ o. grip (own history o)) li (legal_shared limits history legal).grips in
    contained_times block (held history) (omega arith)

-- the list after a block is got or given back
module _ (sizes : Sizes) (history : List Entry) (holders : List (Option ℕ)) (by block : ℕ) (h : HoldersFit sizes history holders)
    (low : block < blocks sizes) where
  set_here : (holder : Option ℕ) → get_or (set holders block holder) block None ≡ holder
  set_here holder = get_or-set_same holders block holder None (rw h.size low)

  set_other : (holder : Option ℕ) (b : ℕ) → b ≢ block → get_or (set holders block holder) b None ≡ get_or holders b None
  set_other holder b ne = get_or-set_other holders block b holder None ne

  got_low : by < sizes.processes → (i b : ℕ) → is_holder i (get_or (set holders block (Some by)) b None) ≡ true → i < sizes.processes
  got_low lt i b e = elim (cases_eq b block) [
    | inl is ↦ let named = holder_is i by (rw (is, set_here (Some by)) at e) in omega (arith, named)
    | inr ne ↦ h.low i b (rw (set_other (Some by) b ne) at e)
  ]

  got_old : (i b : ℕ) → Contains (grip (own history i)) b → Contains (grip (own (history ++ Got by block ∷ []) i)) b
  got_old i b has = elim (cases_eq by i) [
    | inl is ↦ subst (λ list. Contains list b) (sym (own_grip_more history (Got by block) i is))
        (contains_tail b block (grip (own history i)) has)
    | inr ne ↦ subst (λ list. Contains list b) (sym (own_grip_other history (Got by block) i ne)) has
  ]

  got_new : (i : ℕ) → by ≡ i → Contains (grip (own (history ++ Got by block ∷ []) i)) block
  got_new i is =
      subst (λ list. Contains list block) (sym (own_grip_more history (Got by block) i is)) (contains_head block (grip (own history i)))

  got_truly : (i b : ℕ) → is_holder i (get_or (set holders block (Some by)) b None) ≡ true
      → Contains (grip (own (history ++ Got by block ∷ []) i)) b
  got_truly i b e = elim (cases_eq b block) [
    | inl is ↦ subst (λ c. Contains (grip (own (history ++ Got by block ∷ []) i)) c) (sym is)
        (got_new i (sym (holder_is i by (rw (is, set_here (Some by)) at e))))
    | inr ne ↦ got_old i b (h.truly i b (rw (set_other (Some by) b ne) at e))
  ]

  got_all : ((i : ℕ) → Contains (grip (own history i)) block → ⊥) → (i b : ℕ) → Contains (grip (own (history ++ Got by block ∷ []) i)) b
      → is_holder i (get_or (set holders block (Some by)) b None) ≡ true
  got_all free i b has = elim (cases_eq by i) [
    | inl is ↦ elim (cases_eq b block) [
      | inl at ↦ rw (at, set_here (Some by)) (is_named i by (sym is))
      | inr ne ↦ rw (set_other (Some by) b ne)
          (h.all i b (elim (contains_cons_cases b block (grip (own history i))
          (subst (λ list. Contains list b) (own_grip_more history (Got by block) i is) has)) [
            | inl e ↦ absurd (ne (sym e))
            | inr old ↦ old
          ]))
    ]
    | inr apart ↦ let old : Contains (grip (own history i)) b = subst (λ list. Contains list b)
        (own_grip_other history (Got by block) i apart) has in elim (cases_eq b block) [
          | inl at ↦ absurd (free i (subst (λ c. Contains (grip (own history i)) c) at old))
          | inr ne ↦ rw (set_other (Some by) b ne) (h.all i b old)
        ]
  ]

  got_fits : by < sizes.processes → ((i : ℕ) → Contains (grip (own history i)) block → ⊥)
      → HoldersFit sizes (history ++ Got by block ∷ []) (set holders block (Some by))
  got_fits lt free = record { size = length-set holders block (Some by) ∙ h.size; low = got_low lt; truly = got_truly; all = got_all free }

  back_names : (i b : ℕ) → is_holder i (get_or (set holders block None) b None) ≡ true
      → (b ≢ block) × (is_holder i (get_or holders b None) ≡ true)
  back_names i b e = elim (cases_eq b block) [
    | inl is ↦ absurd (none_named i (rw (is, set_here None) at e))
    | inr ne ↦ (ne, rw (set_other None b ne) at e)
  ]

  back_truly : (i b : ℕ) → is_holder i (get_or (set holders block None) b None) ≡ true
      → Contains (grip (own (history ++ Back by block ∷ []) i)) b
  back_truly i b e = let names = back_names i b e in elim (cases_eq by i) [
    | inl is ↦ subst (λ list. Contains list b) (sym (own_grip_more history (Back by block) i is))
        (without_contains block b (grip (own history i)) (h.truly i b names.1) names.0)
    | inr ne ↦ subst (λ list. Contains list b) (sym (own_grip_other history (Back by block) i ne)) (h.truly i b names.1)
  ]

  back_all : Contains (grip (own history by)) block → (i b : ℕ) → Contains (grip (own (history ++ Back by block ∷ []) i)) b
      → is_holder i (get_or (set holders block None) b None) ≡ true
  back_all mine i b has = elim (cases_eq by i) [
    | inl is ↦ let left = contains_without block b (grip (own history i))
        (subst (λ list. Contains list b) (own_grip_more history (Back by block) i is) has) in
        rw (set_other None b left.1) (h.all i b left.0)
    | inr apart ↦ let old : Contains (grip (own history i)) b = subst (λ list. Contains list b)
        (own_grip_other history (Back by block) i apart) has in elim (cases_eq b block) [
          | inl at ↦ absurd (apart
              (one_named i by (get_or holders block None) (h.all i block (subst (λ c. Contains (grip (own history i)) c) at old))
              (h.all by block mine)))
          | inr ne ↦ rw (set_other None b ne) (h.all i b old)
        ]
  ]

  back_fits : Contains (grip (own history by)) block → HoldersFit sizes (history ++ Back by block ∷ []) (set holders block None)
  back_fits mine =
      record {
        size = length-set holders block None ∙ h.size;
        low = λ i b e. h.low i b (back_names i b e).1;
        truly = back_truly;
        all = back_all mine;
      }

-- a block that has an entry with a name is one of the pool
named_low : (sizes : Sizes) (history : List Entry) (holders : List (Option ℕ)) (i block : ℕ) → HoldersFit sizes history holders
    → is_holder i (get_or holders block None) ≡ true → block < blocks sizes
named_low sizes history holders i block h e = elim (cases_lt block (length holders)) [
  | inl lt ↦ rw h.size at lt
  | inr ge ↦ absurd (none_named i (sym (ap (is_holder i) (get_or_past holders block None ge)) ∙ e))
]

-- each entry
dry_grip : (history : List Entry) (by i : ℕ) → grip (own (history ++ Dry by ∷ []) i) ≡ grip (own history i)
dry_grip history by i = elim (cases_eq by i) [
  | inl is ↦ own_grip_more history (Dry by) i is
  | inr ne ↦ own_grip_other history (Dry by) i ne
]

entered_fits : (sizes : Sizes) (history : List Entry) (holders : List (Option ℕ)) (entry : Entry) → HoldersFit sizes history holders
    → IsLegal (limits_of sizes) (history ++ entry ∷ [])
    → HoldersFit sizes (history ++ entry ∷ []) (holders_entered entry holders)
entered_fits sizes history holders (Got by block) h legal =
    let may = last_follows (limits_of sizes) history (Got by block) legal in
    let past = past_is_legal (limits_of sizes) history (Got by block) legal in
    got_fits sizes history holders by block h may.1 may.0
    (λ i has. may.2 (grip_is_held (limits_of sizes) history i block past (h.low i block (h.all i block has)) has))
entered_fits sizes history holders (Back by block) h legal =
    let may = last_follows (limits_of sizes) history (Back by block) legal in
    back_fits sizes history holders by block h (named_low sizes history holders by block h (h.all by block may.1)) may.1
entered_fits sizes history holders (Dry by) h legal = record {
  size = h.size;
  low = h.low;
  truly = λ i block e. subst (λ list. Contains list block) (sym (dry_grip history by i)) (h.truly i block e);
  all = λ i block has. h.all i block (subst (λ list. Contains list block) (dry_grip history by i) has);
}

-- an answer changes it as its entry says
same_fits : (sizes : Sizes) (history : List Entry) (holders : List (Option ℕ)) → HoldersFit sizes history holders
    → HoldersFit sizes (history ++ []) holders
same_fits sizes history holders h = subst (λ entries. HoldersFit sizes entries holders) (sym (append-nil history)) h

-- what a step enters is noted in the table of holders
pub step_holders : (sizes : Sizes) (table : List ℕ) (views : ProcessViews) (history : List Entry) (holders : List (Option ℕ))
    (happened : Happened)
    → HoldersFit sizes history holders
    → MeetsInvariant sizes table views (history ++ entries_of happened)
    → HoldersFit sizes (history ++ entries_of happened) (holders_after happened holders)
step_holders sizes table views history holders (Step kind) h meets = same_fits sizes history holders h
step_holders sizes table views history holders (Ended kind entry) h (ghosts, holds) =
    entered_fits sizes history holders entry h holds.entries.legal
step_holders sizes table views history holders (Loaded word) h meets = same_fits sizes history holders h
step_holders sizes table views history holders Stored h meets = same_fits sizes history holders h
step_holders sizes table views history holders Ignored h meets = same_fits sizes history holders h

-- a process that is named as the holder of a call's block holds it
pub truly_held : (sizes : Sizes) (history : List Entry) (holders : List (Option ℕ)) (i : ℕ) (call : Call) → HoldersFit sizes history holders
    → holds_for holders i call ≡ true
    → BlockIsHeld (grip (own history i)) call
truly_held sizes history holders i Allocate fit holds = tt
truly_held sizes history holders i (Free block) fit holds = fit.truly i block holds
truly_held sizes history holders i (Read block index) fit holds = fit.truly i block holds
truly_held sizes history holders i (Write block index value) fit holds = fit.truly i block holds
truly_held sizes history holders i Search fit holds = tt
