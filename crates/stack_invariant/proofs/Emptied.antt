-- a take that is answered with nothing was applied to an empty content
use Rattle.std.proofs.Common.{◌≡◌, ◌≢◌, ℕ, zero, suc, ◌+◌, ◌-◌, ◌<◌, ◌≤◌, ◌==◌, Bool, true, false, refl, sym, ap, ◌∙◌, subst, inl, inr}
use Rattle.std.proofs.Common.{arith}
use Rattle.std.specs.Prelude.{if◌then◌else◌}
use Rattle.std.proofs.lemmas.Bool.{cases_eq}
use Rattle.std.proofs.lemmas.Bool.Decides.{nat_tests}
use Rattle.word_layout.specs.Sizes.{Sizes, IsShape, blocks, most_blocks}
use Rattle.word_layout.specs.Packing.{value_of, reply_of, reply_value}
use Rattle.word_layout.specs.declared.announced.Wish.{Wish}
use Rattle.word_layout.specs.declared.announced.Wish.TheVariants.{Take, Give}
use Rattle.word_layout.specs.declared.reply.Reply.TheVariants.{Nothing, Took, Gave}
use Rattle.word_layout.proofs.Packed.{reply_of-reply_value}
use Rattle.transfer_machine.specs.States.{StackState, put, with_transfer, with_wish, answer_to, next_of}
use Rattle.transfer_machine.specs.Tries.{is_pending, is_take, is_odd_transfer, announced_wish}
use Rattle.transfer_machine.proofs.NextStates.{put_here, put_away}
use Rattle.transfer_invariant.specs.Memory.{Words, Views, States, state_tag}
use Rattle.transfer_invariant.specs.OpeningState.{opening_state}
use Rattle.transfer_invariant.specs.Progress.{has_announced}
use Rattle.slot_invariant.proofs.Opened.{opening_slot_low}
use Rattle.transfer_invariant.specs.Laws.{WishIsBlock}
use Rattle.draft_invariant.proofs.NextState.{either_reply, next_applied}
use Rattle.draft_invariant.proofs.Wishes.{wish_of_block}
use Rattle.stack_invariant.specs.Emptied.{MetNothing}
use Rattle.stack_invariant.specs.Following.{Follows, StatesFollow}
use Rattle.stack_invariant.specs.Laws.{StatesAreBlocks, EmptyTakesMetNothing}
use Rattle.stack_invariant.specs.Stack.{StackHolds}
use Rattle.stack_invariant.proofs.NextReplies.{reply_waits}

-- a content of heads of blocks
abbrev pub IsOfBlocks : Sizes → StackState → Type 0
IsOfBlocks sizes s = (place : ℕ) → place < s.height → s.content place < blocks sizes

-- a wish leaves such a content
given_block : (sizes : Sizes) (head place : ℕ) (s : StackState) → head < blocks sizes → IsOfBlocks sizes s → place < s.height + 1
    → put s.height head s.content place < blocks sizes
given_block sizes head place s block h lt = elim (cases_eq place s.height) [
  | inl e ↦ rw e (rw (put_here s.height head s.content) block)
  | inr ne ↦ rw (put_away s.height head place s.content ne) (h place (omega arith))
]

wished_blocks : (sizes : Sizes) (wish : Wish) (s : StackState) → WishIsBlock sizes wish → IsOfBlocks sizes s
    → IsOfBlocks sizes (with_wish wish s)
wished_blocks sizes Take s block h place lt = h place (omega arith)
wished_blocks sizes (Give head) s block h place lt = given_block sizes head place s block h lt

-- and so do announcements of blocks
announced_blocks : (sizes : Sizes) (t : Bool) (process word : ℕ) (s : StackState) → value_of word ≤ blocks sizes → IsOfBlocks sizes s
    → IsOfBlocks sizes (if t then with_transfer process word s else s)
announced_blocks sizes true process word s block h =
    wished_blocks sizes (announced_wish word) s (wish_of_block sizes (value_of word) block) h
announced_blocks sizes false process word s block h = h

-- announcements of blocks, applied to a content of blocks, leave one of blocks
pub next_blocks : (sizes : Sizes) (announcements : ℕ → ℕ) (s : StackState) (k : ℕ) → ((o : ℕ) → value_of (announcements o) ≤ blocks sizes)
    → IsOfBlocks sizes s → IsOfBlocks sizes (next_of k announcements s)
unfolding next_of
next_blocks sizes announcements s zero block h = h
next_blocks sizes announcements s (suc k) block h =
    let t = next_of k announcements s in
    announced_blocks sizes (is_pending (announcements k) (t.reply k)) k (announcements k) t (block k)
    (next_blocks sizes announcements s k block h)

-- so all states have such contents
opened_blocks : (sizes : Sizes) → IsShape sizes → IsOfBlocks sizes (opening_state sizes)
unfolding opening_state
opened_blocks sizes shape place lt = opening_slot_low sizes shape place

followed_blocks : (sizes : Sizes) (s t : StackState) → Follows sizes s t → IsOfBlocks sizes s → IsOfBlocks sizes t
followed_blocks sizes s t f h place lt =
    let next = next_blocks sizes f.announcements s sizes.processes f.heads h in
    rw (f.next.content place (rw f.next.height at lt)) (next place (rw f.next.height at lt))

blocks_so_far : (sizes : Sizes) (words : Words) (states : States) (k : ℕ) → IsShape sizes → StatesFollow sizes words states
    → k + 1 ≤ state_tag words → IsOfBlocks sizes (states (k + 1))
blocks_so_far sizes words states zero shape f le = rw f.opened (opened_blocks sizes shape)
blocks_so_far sizes words states (suc k) shape f le =
    let e : suc k + 1 ≡ k + 1 + 1 = omega arith in
    rw e (followed_blocks sizes (states (k + 1)) (states (k + 1 + 1)) (f.each (k + 1) (omega arith) (omega arith))
    (blocks_so_far sizes words states k shape f (omega arith)))

-- all heads of all states so far are blocks
pub states_are_blocks : StatesAreBlocks
states_are_blocks sizes words views states m place shape h some le lt =
    subst (λ (n : ℕ). IsOfBlocks sizes (states n)) back (blocks_so_far sizes words states (m - 1) shape h.follow (omega arith)) place lt
  where
    back : m - 1 + 1 ≡ m
    back = omega arith

-- a reply that says nothing to a pending transfer is one to a take, from a state without content
own_reply : (t : Bool) (k x : ℕ) (s u : StackState) → u.reply ≡ put k x s.reply → t ≡ true → (if t then u else s).reply k ≡ x
own_reply true k x s u e pending = ap (λ f. f k) e ∙ put_here k x s.reply
own_reply false k x s u e pending = grind arith

took_nothing : (head : ℕ) → Took head ≢ Nothing
took_nothing head e = cc

gave_nothing : Gave ≢ Nothing
gave_nothing e = cc

is_empty : (n : ℕ) → (n == 0) ≡ true → n ≡ 0
is_empty n e = grind (arith, nat_tests)

not_empty : (n : ℕ) → (n == 0) ≡ false → n - 1 < n
not_empty n e = grind (arith, nat_tests)

-- what a take found where it is answered so
pub record FindsEmpty (wish : Wish) (s : StackState) : Type 0 where
  pub take : is_take wish ≡ true
  pub empty : s.height ≡ 0

taken_nothing : (odd t : Bool) (head : ℕ) → (t ≡ false → head < most_blocks)
    → reply_of (reply_value odd (if t then Nothing else Took head)) ≡ Nothing → t ≡ true
taken_nothing odd true head fits says = refl
taken_nothing odd false head fits says = absurd (took_nothing head (sym (reply_of-reply_value odd (Took head) (fits refl)) ∙ says))

says_empty : (odd : Bool) (wish : Wish) (s : StackState) → ((place : ℕ) → place < s.height → s.content place < most_blocks)
    → reply_of (reply_value odd (answer_to wish s)) ≡ Nothing → FindsEmpty wish s
says_empty odd Take s fits says = record {
  take = refl;
  empty = is_empty s.height (taken_nothing odd (s.height == 0) (s.content (s.height - 1))
      (λ some. fits (s.height - 1) (not_empty s.height some)) says);
}
says_empty odd (Give head) s fits says = absurd (gave_nothing (sym (reply_of-reply_value odd Gave tt) ∙ says))

-- where a pending transfer of a process is answered so by an exchange, it met nothing at its turn
pub found_empty : (announcements : ℕ → ℕ) (s : StackState) (count o : ℕ) → o < count
    → ((k : ℕ) → k ≤ count → (place : ℕ) → place < (next_of k announcements s).height → (next_of k announcements s).content
    place < most_blocks)
    → is_pending (announcements o) (s.reply o) ≡ true
    → reply_of ((next_of count announcements s).reply o) ≡ Nothing
    → FindsEmpty (announced_wish (announcements o)) (next_of o announcements s)
unfolding next_of
found_empty announcements s zero o lt fits pending says = absurd (omega arith)
found_empty announcements s (suc k) o lt fits pending says = elim (cases_eq o k) [
  | inl e ↦
      let t = next_of k announcements s in
      let word = announcements k in
      let now : is_pending word (t.reply k) ≡ true = rw (reply_waits announcements s k k (omega arith)) (rw e at pending) in
      let mine = own_reply (is_pending word (t.reply k)) k _ t (with_transfer k word t) refl now in
      let told : reply_of (reply_value (is_odd_transfer word) (answer_to (announced_wish word) t)) ≡ Nothing = rw mine at (rw e at says) in
      rw e (says_empty (is_odd_transfer word) (announced_wish word) t (fits k (omega arith)) told)
  | inr ne ↦
      let t = next_of k announcements s in
      let stays = either_reply (is_pending (announcements k) (t.reply k)) k _ o t (with_transfer k (announcements k) t) refl ne in
      found_empty announcements s k o (omega arith) (λ j le. fits j (omega arith)) pending (rw stays at says)
]

-- the state before the first one that has applied a transfer
record Applying (states : States) (last o age : ℕ) : Type 0 where
  before : ℕ
  some : 1 ≤ before
  earlier : before < last
  not_yet : (states before).applied o ≢ age
  now : (states (before + 1)).applied o ≡ age

applying : (states : States) (k o age : ℕ) → (states 1).applied o ≢ age → (states (k + 1)).applied o ≡ age → Applying states (k + 1) o age
applying states zero o age not now = absurd (not now)
applying states (suc k) o age not now = elim (cases_eq ((states (k + 1)).applied o) age) [
  | inl e ↦
      let a = applying states k o age not e in
      record { before = a.before; some = a.some; earlier = omega (arith, a.earlier); not_yet = a.not_yet; now = a.now }
  | inr ne ↦ record { before = k + 1; some = omega arith; earlier = omega arith; not_yet = ne; now = last now }
]
  where
    last : (states (suc k + 1)).applied o ≡ age → (states (k + 1 + 1)).applied o ≡ age
    last h = let e : suc k + 1 ≡ k + 1 + 1 = omega arith in rw e at h

-- an exchange that raised the count of a process met its pending announcement
rises : (p : Bool) (before after age : ℕ) → after ≡ (if p then before + 1 else before) → before ≢ age → after ≡ age
    → (p ≡ true) × (before + 1 ≡ age)
rises true before after age e not now = (refl, sym e ∙ now)
rises false before after age e not now = absurd (not (sym e ∙ now))

raised : (sizes : Sizes) (s t : StackState) (i age : ℕ) (f : Follows sizes s t) → i < sizes.processes → s.applied i ≢ age
    → t.applied i ≡ age
    → (is_pending (f.announcements i) (s.reply i) ≡ true) × (s.applied i + 1 ≡ age)
raised sizes s t i age f li not now =
    rises (is_pending (f.announcements i) (s.reply i)) (s.applied i) (t.applied i) age
    (f.next.applied i li ∙ next_applied sizes.processes f.announcements s i li) not now

-- and where it answered with nothing, it met nothing
met_empty : (sizes : Sizes) (s t : StackState) (i : ℕ) (f : Follows sizes s t) → IsShape sizes → i < sizes.processes → IsOfBlocks sizes s
    → is_pending (f.announcements i) (s.reply i) ≡ true → reply_of (t.reply i) ≡ Nothing
    → FindsEmpty (announced_wish (f.announcements i)) (next_of i f.announcements s)
met_empty sizes s t i f shape li of_blocks pending says =
    found_empty f.announcements s sizes.processes i li
    (λ k le place lt. below (next_blocks sizes f.announcements s k f.heads of_blocks place lt) shape.few_blocks) pending
    (ap reply_of (sym (f.next.reply i li)) ∙ says)
  where
    below : {a b : ℕ} → a < b → b ≤ most_blocks → a < most_blocks
    below lt le = omega (arith, lt, le)

none_applied : (sizes : Sizes) (states : States) (i age : ℕ) → states 1 ≡ opening_state sizes → 1 ≤ age → (states 1).applied i ≢ age
unfolding opening_state
none_applied sizes states i age opened some e = let zero_is : 0 ≡ age = rw opened at e in omega (arith, some, zero_is)

met_nothing : (sizes : Sizes) (words : Words) (views : Views) (states : States) (i : ℕ) → IsShape sizes → i < sizes.processes
    → StackHolds sizes words views states → has_announced (views i).next ≡ true
    → Applying states (state_tag words) i (views i).age → reply_of ((states (state_tag words)).reply i) ≡ Nothing
    → MetNothing sizes words states i (views i)
met_nothing sizes words views states i shape li h announced a says =
    let follows = h.follow.each a.before a.some a.earlier in
    let settled = (h.helping.settled i li).in_states announced (a.before + 1) (omega (arith, a.earlier)) a.now in
    let (pending, not_yet) = raised sizes (states a.before) (states (a.before + 1)) i (views i).age follows li a.not_yet a.now in
    let found = met_empty sizes (states a.before) (states (a.before + 1)) i follows shape li
    (λ place lt. states_are_blocks sizes words views states a.before place shape h a.some (omega (arith, a.earlier)) lt) pending
    (ap reply_of settled ∙ says) in
    record {
      before = a.before;
      some = a.some;
      earlier = a.earlier;
      follows = follows;
      pending = pending;
      not_yet = not_yet;
      applied = a.now;
      take = found.take;
      empty = found.empty;
    }

-- a transfer that is applied and answered with nothing was a take that met an empty content
pub empty_takes_met_nothing : EmptyTakesMetNothing
empty_takes_met_nothing sizes words views states i shape li h announced applied says =
    met_nothing sizes words views states i shape li h announced first says
  where
    counted : 1 ≤ (views i).age
    counted = (h.transfers.tags.order i li).counted announced

    whole : state_tag words - 1 + 1 ≡ state_tag words
    whole = omega (arith, h.follow.some)

    first : Applying states (state_tag words) i (views i).age
    first = rw whole at (applying states (state_tag words - 1) i (views i).age
        (none_applied sizes states i (views i).age h.follow.opened counted) (rw whole applied))
