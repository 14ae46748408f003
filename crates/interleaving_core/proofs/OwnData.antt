-- the data words that processes know, under the own step of a call
use Rattle.std.proofs.Common.{◌≡◌, ◌≢◌, ℕ, ◌<◌, Option, None, Some, List, ◌⊎◌, sym, ◌∙◌, inl, inr, arith}
use Rattle.std.specs.Prelude.{◌==◌, ◌&&◌, if◌then◌else◌, Contains}
use Rattle.std.proofs.lemmas.Bool.{cases_eq}
use Rattle.std.proofs.lemmas.Bool.Decides.{nat_tests}
use Rattle.word_layout.specs.Sizes.{Sizes, blocks}
use Rattle.word_layout.specs.declared.name.WordName.TheVariants.{State, Next, Data}
use Rattle.pool_model.proofs.Members.{contains_tail, without_contains}
use Rattle.transfer_machine.specs.Words.{name_of}
use Rattle.transfer_machine.specs.declared.action.Action.{Action}
use Rattle.transfer_machine.specs.declared.action.Action.TheVariants.{Load, Store}
use Rattle.pool_machine.specs.declared.call.Call.{Call}
use Rattle.pool_machine.specs.declared.call.Call.TheVariants.{Allocate, Free, Read, Write, Search}
use Rattle.pool_machine.specs.declared.view.PoolView.{PoolView}
use Rattle.transfer_invariant.specs.Memory.{Words, Acted}
use Rattle.pool_machine.specs.OwnSteps.{next_block, allocate_action, own_action_for}
use Rattle.chain_invariant.specs.Calls.{with_got, held_by_call, NamesHeld}
use Rattle.chain_invariant.specs.Chains.{without}
use Rattle.interleaving_core.specs.DataWords.{with_word, forgets, known_by_call, changed_by_call}
use Rattle.interleaving_core.specs.Invariant.{Known, DataHolds}

-- the data words of held blocks stay
abbrev pub HeldWordsStay : Sizes → List ℕ → Words → Words → Type 0
HeldWordsStay sizes held words new = (b k : ℕ) → Contains held b → k < sizes.words → new (Data b k) ≡ words (Data b k)

-- held blocks are blocks of the pool
abbrev pub HeldAreLow : Sizes → List ℕ → Type 0
HeldAreLow sizes held = (b : ℕ) → Contains held b → b < blocks sizes

-- where the words of held blocks stay, and more are held, what is known holds
pub data_stays : (sizes : Sizes) (words new : Words) (held more : List ℕ) (known : Known) → DataHolds sizes words held known
    → HeldWordsStay sizes held words new → ((b : ℕ) → Contains held b → Contains more b)
    → DataHolds sizes new more known
data_stays sizes words new held more known h stay keeps = record {
  holds = λ b k value e. keeps b (h.holds b k value e);
  within = h.within;
  value = λ b k value e. stay b k (h.holds b k value e) (h.within b k value e) ∙ h.value b k value e;
}

-- what a free forgets
forgotten : (b block : ℕ) (old : Option ℕ) (value : ℕ) → (if b == block then None else old) ≡ Some value → b ≢ block × old ≡ Some value
forgotten b block old value e = elim (cases_eq b block) [
  | inl same ↦ absurd (none b block old value same e)
  | inr ne ↦ (ne, rest b block old value ne e)
]
  where
    none : (b block : ℕ) (old : Option ℕ) (value : ℕ) → b ≡ block → (if b == block then None else old) ≡ Some value → ⊥
    none b block old value same e = grind (arith, nat_tests)

    rest : (b block : ℕ) (old : Option ℕ) (value : ℕ) → b ≢ block → (if b == block then None else old) ≡ Some value → old ≡ Some value
    rest b block old value ne e = grind (arith, nat_tests)

-- where a value is known after a load or a store, it is that of its word, or was known before of another word
record IsAt (b k block index : ℕ) (value seen : ℕ) : Type 0 where
  at_block : b ≡ block
  at_index : k ≡ index
  is_seen : value ≡ seen

record IsElsewhere (b k block index : ℕ) (old : Option ℕ) (value : ℕ) : Type 0 where
  apart : (b ≡ block) → (k ≡ index) → ⊥
  known : old ≡ Some value

learnt : (b k block index seen : ℕ) (old : Option ℕ) (value : ℕ) → (if b == block && (k == index) then Some seen else old) ≡ Some value
    → IsAt b k block index value seen ⊎ IsElsewhere b k block index old value
learnt b k block index seen old value e = elim (cases_eq b block) [
  | inl same ↦ elim (cases_eq k index) [
    | inl at ↦ inl (record { at_block = same; at_index = at; is_seen = here b k block index seen old value same at e })
    | inr ne ↦ inr (record { apart = λ eb ek. ne ek; known = other_index b k block index seen old value ne e })
  ]
  | inr ne ↦ inr (record { apart = λ eb ek. ne eb; known = other_block b k block index seen old value ne e })
]
  where
    here : (b k block index seen : ℕ) (old : Option ℕ) (value : ℕ) → b ≡ block → k ≡ index
        → (if b == block && (k == index) then Some seen else old) ≡ Some value → value ≡ seen
    here b k block index seen old value same at e = grind (arith, nat_tests)

    other_index : (b k block index seen : ℕ) (old : Option ℕ) (value : ℕ) → k ≢ index
        → (if b == block && (k == index) then Some seen else old) ≡ Some value → old ≡ Some value
    other_index b k block index seen old value ne e = grind (arith, nat_tests)

    other_block : (b k block index seen : ℕ) (old : Option ℕ) (value : ℕ) → b ≢ block
        → (if b == block && (k == index) then Some seen else old) ≡ Some value → old ≡ Some value
    other_block b k block index seen old value ne e = grind (arith, nat_tests)

-- the words of held blocks stay where an action is on another word, or loads
pub same_block : (b k block index : ℕ) → Data b k ≡ Data block index → b ≡ block
same_block b k block index e = cc

-- data words of one name are of one index
pub same_index : (b k block index : ℕ) → Data b k ≡ Data block index → k ≡ index
same_index b k block index e = cc

acts_apart : (sizes : Sizes) (action : Action) (words new : Words) (held : List ℕ) → HeldAreLow sizes held
    → ((b k : ℕ) → Contains held b → Data b k ≢ name_of action) → Acted sizes action words new
    → HeldWordsStay sizes held words new
acts_apart sizes action words new held low ne a = λ b k has lt. a.elsewhere (Data b k) (low b has, lt) (ne b k has)

loads_data : (sizes : Sizes) (block index : ℕ) (words new : Words) (held : List ℕ) → HeldAreLow sizes held
    → Acted sizes (Load (Data block index)) words new → HeldWordsStay sizes held words new
loads_data sizes block index words new held low a = λ b k has lt. elim (cases_eq b block) [
  | inl eb ↦ elim (cases_eq k index) [
    | inl ek ↦ rw (eb, ek) a.here
    | inr ne ↦ a.elsewhere (Data b k) (low b has, lt) (λ e. ne (same_index b k block index e))
  ]
  | inr ne ↦ a.elsewhere (Data b k) (low b has, lt) (λ e. ne (same_block b k block index e))
]

allocate_apart : (sizes : Sizes) (words new : Words) (held : List ℕ) (block : Option ℕ) → HeldAreLow sizes held
    → Acted sizes (allocate_action block) words new → HeldWordsStay sizes held words new
allocate_apart sizes words new held None low a = acts_apart sizes (Load State) words new held low (λ b k has. λ e. cc) a
allocate_apart sizes words new held (Some block) low a = acts_apart sizes (Load (Next block)) words new held low (λ b k has. λ e. cc) a

-- a store on a data word leaves all that is known of other words
stored_elsewhere : (sizes : Sizes) (block index value : ℕ) (words new : Words) (b k : ℕ) → b < blocks sizes → k < sizes.words
    → ((b ≡ block) → (k ≡ index) → ⊥) → Acted sizes (Store (Data block index) value) words new
    → new (Data b k) ≡ words (Data b k)
stored_elsewhere sizes block index value words new b k lb lk apart a =
    a.elsewhere (Data b k) (lb, lk) (λ e. apart (same_block b k block index e) (same_index b k block index e))

-- the data words of the blocks that other processes hold stay
pub others_words_stay : (sizes : Sizes) (words new : Words) (pool : PoolView) (held others : List ℕ) (call : Option Call)
    → HeldAreLow sizes others → ((b : ℕ) → Contains held b → ¬ Contains others b)
    → NamesHeld sizes held call → Acted sizes (own_action_for pool call) words new → HeldWordsStay sizes others words new
others_words_stay sizes words new pool held others None low apart names a =
    acts_apart sizes (Load State) words new others low (λ b k has. λ e. cc) a
others_words_stay sizes words new pool held others (Some Allocate) low apart names a =
    allocate_apart sizes words new others (next_block pool) low a
others_words_stay sizes words new pool held others (Some (Free block)) low apart names a =
    acts_apart sizes (own_action_for pool (Some (Free block))) words new others low (λ b k has. λ e. cc) a
others_words_stay sizes words new pool held others (Some (Read block index)) low apart names a =
    loads_data sizes block index words new others low a
others_words_stay sizes words new pool held others (Some (Write block index value)) low apart names a =
    acts_apart sizes (Store (Data block index) value) words new others low
    (λ b k has. λ e. apart block names.0 (rw (sym (same_block b k block index e)) has)) a
others_words_stay sizes words new pool held others (Some Search) low apart names a =
    allocate_apart sizes words new others (next_block pool) low a

-- a process that loaded or stored a data word knows it
knows_word : (sizes : Sizes) (words new : Words) (held : List ℕ) (known : Known) (block index seen : ℕ) → DataHolds sizes words held known
    → Contains held block → index < sizes.words
    → new (Data block index) ≡ seen
    → ((b k : ℕ) → Contains held b → k < sizes.words → ((b ≡ block) → (k ≡ index) → ⊥) → new (Data b k) ≡ words (Data b k))
    → DataHolds sizes new held (with_word block index seen known)
knows_word sizes words new held known block index seen h has low here stay = record {
  holds =
      λ b k value e. elim (learnt b k block index seen (known b k) value e)
      [ inl at ↦ rw at.at_block has | inr other ↦ h.holds b k value other.known ];
  within =
      λ b k value e. elim (learnt b k block index seen (known b k) value e)
      [ inl at ↦ rw at.at_index low | inr other ↦ h.within b k value other.known ];
  value = λ b k value e. elim (learnt b k block index seen (known b k) value e) [
    | inl at ↦ rw (at.at_block, at.at_index, at.is_seen) here
    | inr other ↦ stay b k (h.holds b k value other.known) (h.within b k value other.known) other.apart ∙ h.value b k value other.known
  ];
}

-- one that frees a block knows all other words
knows_others : (sizes : Sizes) (words new : Words) (held : List ℕ) (known : Known) (block : ℕ) → DataHolds sizes words held known
    → HeldWordsStay sizes held words new
    → DataHolds sizes new (without block held) (forgets block known)
knows_others sizes words new held known block h stay = record {
  holds = λ b k value e. let (ne, old) = forgotten b block (known b k) value e in without_contains block b held (h.holds b k value old) ne;
  within = λ b k value e. let (ne, old) = forgotten b block (known b k) value e in h.within b k value old;
  value =
      λ b k value e. let (ne, old) = forgotten b block (known b k) value e in stay b k (h.holds b k value old) (h.within b k value old)
      ∙ h.value b k value old;
}

got_too : (block : Option ℕ) (held : List ℕ) (b : ℕ) → Contains held b → Contains (with_got block held) b
got_too None held b has = has
got_too (Some block) held b has = contains_tail b block held has

-- a process knows its data words after its own step
pub own_data : (sizes : Sizes) (words new : Words) (pool : PoolView) (held : List ℕ) (known : Known) (call : Option Call)
    → HeldAreLow sizes held → NamesHeld sizes held call
    → Acted sizes (own_action_for pool call) words new
    → DataHolds sizes words held known
    → DataHolds sizes new (held_by_call pool call held) (known_by_call (words (name_of (own_action_for pool call))) call known)
own_data sizes words new pool held known None low names a h =
    data_stays sizes words new held held known h (acts_apart sizes (Load State) words new held low (λ b k has. λ e. cc) a) (λ b has. has)
own_data sizes words new pool held known (Some Allocate) low names a h =
    data_stays sizes words new held (with_got (next_block pool) held) known h (allocate_apart sizes words new held (next_block pool) low a)
    (λ b has. got_too (next_block pool) held b has)
own_data sizes words new pool held known (Some (Free block)) low names a h =
    knows_others sizes words new held known block h
    (acts_apart sizes (own_action_for pool (Some (Free block))) words new held low (λ b k has. λ e. cc) a)
own_data sizes words new pool held known (Some (Read block index)) low names a h =
    knows_word sizes words new held known block index (words (Data block index)) h names.0 names.1 a.here
    (λ b k has lt apart. loads_data sizes block index words new held low a b k has lt)
own_data sizes words new pool held known (Some (Write block index value)) low names a h =
    knows_word sizes words new held known block index value h names.0 names.1 a.here
    (λ b k has lt apart. stored_elsewhere sizes block index value words new b k (low b has) lt apart a)
own_data sizes words new pool held known (Some Search) low names a h =
    data_stays sizes words new held (with_got (next_block pool) held) known h (allocate_apart sizes words new held (next_block pool) low a)
    (λ b has. got_too (next_block pool) held b has)

-- and so it does where it doesn't note a word that it read
pub own_data_unread : (sizes : Sizes) (words new : Words) (pool : PoolView) (held : List ℕ) (known : Known) (call : Option Call)
    → HeldAreLow sizes held
    → NamesHeld sizes held call → Acted sizes (own_action_for pool call) words new → DataHolds sizes words held known
    → DataHolds sizes new (held_by_call pool call held) (changed_by_call call known)
own_data_unread sizes words new pool held known None low names a h = own_data sizes words new pool held known None low names a h
own_data_unread sizes words new pool held known (Some Allocate) low names a h =
    own_data sizes words new pool held known (Some Allocate) low names a h
own_data_unread sizes words new pool held known (Some (Free block)) low names a h =
    own_data sizes words new pool held known (Some (Free block)) low names a h
own_data_unread sizes words new pool held known (Some (Read block index)) low names a h =
    data_stays sizes words new held held known h (loads_data sizes block index words new held low a) (λ b has. has)
own_data_unread sizes words new pool held known (Some (Write block index value)) low names a h =
    own_data sizes words new pool held known (Some (Write block index value)) low names a h
own_data_unread sizes words new pool held known (Some Search) low names a h =
    own_data sizes words new pool held known (Some Search) low names a h
