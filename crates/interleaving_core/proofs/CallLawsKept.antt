-- what each process keeps, and where all blocks are
use Rattle.std.proofs.Common.{◌≡◌, ◌≢◌, ℕ, zero, suc, ◌+◌, ◌*◌, ◌%◌, ◌<◌, ◌≤◌, ◌==◌, Bool, true, false, List, [], ◌∷◌, length, refl, sym}
use Rattle.std.proofs.Common.{ap, ◌∙◌, inl, inr, arith}
use Rattle.std.specs.Prelude.{if◌then◌else◌, not, take}
use Rattle.std.proofs.lemmas.Bool.{cases_eq}
use Rattle.std.proofs.lemmas.Bool.Decides.{nat_tests}
use Rattle.std.proofs.lemmas.List.{length-append}
use Rattle.word_layout.specs.Sizes.{Sizes, IsShape, blocks, transfer_bound, limits_of}
use Rattle.word_layout.specs.Names.{word_at}
use Rattle.word_layout.specs.Packing.{tag_of, reply_of, is_odd_reply}
use Rattle.word_layout.specs.declared.announced.Wish.{Wish}
use Rattle.word_layout.specs.declared.announced.Wish.TheVariants.{Take, Give}
use Rattle.word_layout.specs.declared.name.WordName.TheVariants.{Announcement}
use Rattle.word_layout.specs.declared.reply.Reply.{Reply}
use Rattle.word_layout.specs.declared.reply.Reply.TheVariants.{Nothing, Took, Gave}
use Rattle.process_sums.specs.Sums.{total}
use Rattle.process_sums.proofs.Sums.{total_same, total_le}
use Rattle.pool_model.specs.declared.entry.Entry.{Entry}
use Rattle.pool_model.specs.History.{held, allowance, slack}
use Rattle.transfer_machine.specs.States.{StackState}
use Rattle.transfer_machine.specs.Tries.{is_pending}
use Rattle.transfer_machine.specs.Words.{first_of, stack}
use Rattle.transfer_machine.specs.declared.transfer.TransferView.{TransferView}
use Rattle.transfer_invariant.specs.Memory.{state_tag, current_record, word_value}
use Rattle.transfer_invariant.specs.Progress.{has_announced, has_only_begun}
use Rattle.stack_invariant.specs.Shown.{Shows}
use Rattle.stack_invariant.proofs.Content.{words_show}
use Rattle.stack_invariant.proofs.Tables.{tables_show}
use Rattle.batch_invariant.specs.Batches.{ProcessViews}
use Rattle.batch_invariant.specs.Places.{given, taken, announced_batch, moving}
use Rattle.chain_invariant.specs.Laws.{kept_blocks}
use Rattle.chain_invariant.proofs.Counts.{blocks_counted}
use Rattle.history_invariant.proofs.Holding.{held_shared}
use Rattle.interleaving_core.specs.Invariant.{Ghosts, Holds, held_in}
use Rattle.interleaving_core.specs.Kept.{reply_value_at, pends_at, given_batches, taken_batches, announced_batches, in_transit, kept_by}
use Rattle.interleaving_core.proofs.Joins.{transfers, keeps, withholds_few_at}
use Rattle.interleaving_core.proofs.Withheld.{withholds}

-- a transfer pends exactly where its number isn't that of the last applied one
odd_apart : (age applied : ℕ) (a b : Bool) → (age % 2 == 1) ≡ a → (applied % 2 == 1) ≡ b → age ≡ applied + 1
    → (if a then not b else b) ≡ true
odd_apart age applied true true e f next = grind (arith, nat_tests)
odd_apart age applied true false e f next = refl
odd_apart age applied false true e f next = refl
odd_apart age applied false false e f next = grind (arith, nat_tests)

odd_same : (a : Bool) → (if a then not a else a) ≡ false
odd_same true = refl
odd_same false = refl

off_test : (a b : ℕ) → a ≢ b → not (a == b) ≡ true
off_test a b ne = grind (arith, nat_tests)

on_test : (a : ℕ) → not (a == a) ≡ false
on_test a = grind (arith, nat_tests)

odd_pends : (age applied : ℕ) → applied ≤ age → age ≤ applied + 1
    → (if age % 2 == 1 then not (applied % 2 == 1) else (applied % 2 == 1)) ≡ not (applied == age)
odd_pends age applied most least = elim (cases_eq applied age) [
  | inl e ↦ rw e (odd_same (age % 2 == 1) ∙ sym (on_test age))
  | inr ne ↦ odd_apart age applied (age % 2 == 1) (applied % 2 == 1) refl refl (omega arith) ∙ sym (off_test applied age ne)
]

-- as many batches are in transit as the view and the words say
given_many : (wish : Wish) → given_batches wish ≡ length (given wish)
given_many Take = refl
given_many (Give head) = refl

taken_many : (wish : Wish) (reply : Reply) → taken_batches wish reply ≡ length (taken wish reply)
taken_many Take Nothing = refl
taken_many Take (Took head) = refl
taken_many Take Gave = refl
taken_many (Give head) reply = refl

announced_many : (t : Bool) (wish : Wish) (reply : Reply)
    → announced_batches (not t) wish reply ≡ length (if t then taken wish reply else given wish)
announced_many true wish reply = taken_many wish reply
announced_many false wish reply = given_many wish

either_many : (a b : Bool) (n m : ℕ) (xs ys : List ℕ) → n ≡ length xs → m ≡ length ys
    → (if a then n else (if b then m else 0)) ≡ length (if a then xs else (if b then ys else []))
either_many true b n m xs ys e f = e
either_many false true n m xs ys e f = f
either_many false false n m xs ys e f = refl

moving_many : (s : StackState) (i : ℕ) (v : TransferView) (pends : Bool) (value : ℕ) → pends ≡ not (s.applied i == v.age)
    → value ≡ s.reply i
    → (if has_only_begun v.next then given_batches v.wish
    else (if has_announced v.next then announced_batches pends v.wish (reply_of value) else 0)) ≡ length (moving s i v)
unfolding moving
moving_many s i v pends value e f =
    rw (e, f) (either_many (has_only_begun v.next) (has_announced v.next) (given_batches v.wish)
    (announced_batches (not (s.applied i == v.age)) v.wish (reply_of (s.reply i))) (given v.wish) (announced_batch s i v)
    (given_many v.wish)
    (announced_many (s.applied i == v.age) v.wish (reply_of (s.reply i))))

-- the reply that the words of a table say
pub value_said : (sizes : Sizes) (table : List ℕ) (s : StackState) (i : ℕ) → Shows sizes.processes (word_at sizes table) s
    → i < sizes.processes
    → reply_value_at sizes table i ≡ s.reply i
unfolding current_record word_value
value_said sizes table s i h li = h.reply i li

pending_said : (word value age applied : ℕ) → tag_of word ≡ age → is_odd_reply value ≡ (applied % 2 == 1) → applied ≤ age
    → age ≤ applied + 1 → is_pending word value ≡ not (applied == age)
pending_said word value age applied tag odd most least = rw (tag, odd) (odd_pends age applied most least)

-- whether its announcement pends
pub pends_said : (sizes : Sizes) (table : List ℕ) (views : ProcessViews) (history : List Entry) (ghosts : Ghosts) (i : ℕ)
    → i < sizes.processes → Holds sizes (word_at sizes table) views history ghosts
    → pends_at sizes table i ≡ not ((ghosts.states (state_tag (word_at sizes table))).applied i == (views i).transfer.age)
pends_said sizes table views history ghosts i li h =
    let words = word_at sizes table in
    let s = ghosts.states (state_tag words) in
    let v = (views i).transfer in
    let told = h.stack.helping.announced i li in
    let value = value_said sizes table s i (words_show sizes words (transfers views) ghosts.states h.stack) li in
    let odd = ap is_odd_reply value ∙ h.stack.helping.counts.parities i (state_tag words) li (omega arith) in
    pending_said (words (Announcement i)) (reply_value_at sizes table i) v.age (s.applied i) told.tag odd told.most told.least

-- how many batches of a process are on their way is read off the words
pub transit_said : (sizes : Sizes) (table : List ℕ) (views : ProcessViews) (history : List Entry) (ghosts : Ghosts) (i : ℕ)
    → i < sizes.processes → Holds sizes (word_at sizes table) views history ghosts
    → in_transit sizes table i (views i).transfer ≡ length (moving (ghosts.states (state_tag (word_at sizes table))) i (views i).transfer)
transit_said sizes table views history ghosts i li h =
    let words = word_at sizes table in
    let s = ghosts.states (state_tag words) in
    let value = value_said sizes table s i (words_show sizes words (transfers views) ghosts.states h.stack) li in
    moving_many s i (views i).transfer (pends_at sizes table i) (reply_value_at sizes table i)
    (pends_said sizes table views history ghosts i li h) value

-- how many blocks a process keeps is read off the words
pub kept_said : (sizes : Sizes) (table : List ℕ) (views : ProcessViews) (history : List Entry) (ghosts : Ghosts) (i : ℕ)
    → i < sizes.processes → Holds sizes (word_at sizes table) views history ghosts
    → kept_by sizes table i (views i) ≡ kept_blocks sizes (ghosts.states (state_tag (word_at sizes table))) i (views i)
kept_said sizes table views history ghosts i li h =
    ap (λ n. (views i).pool.plan.current + sizes.length * (length (views i).pool.heads + n))
    (transit_said sizes table views history ghosts i li h)

-- each process keeps at most five batches
at_most : {a b c d : ℕ} → a ≡ b → b ≤ c → c ≤ d → a ≤ d
at_most e le more = omega (arith, e, le, more)

-- they are at most five batches
pub keeps_five : (sizes : Sizes) (table : List ℕ) (views : ProcessViews) (history : List Entry) (ghosts : Ghosts) (i : ℕ) → IsShape sizes
    → i < sizes.processes → Holds sizes (word_at sizes table) views history ghosts
    → kept_by sizes table i (views i) ≤ 5 * sizes.length
keeps_five sizes table views history ghosts i shape li h =
    let k = keeps sizes (word_at sizes table) views history ghosts i shape li h in
    at_most (kept_said sizes table views history ghosts i li h)
    (withholds sizes (ghosts.states (state_tag (word_at sizes table))) i (views i) k)
    (withholds_few_at sizes (word_at sizes table) views history ghosts i shape li h)

-- how many batches the stack has
pub first_many : (count : ℕ) (values : ℕ → ℕ) → length (first_of count values) ≡ count
unfolding first_of
first_many zero values = refl
first_many (suc count) values = length-append (first_of count values) (values count ∷ []) ∙ plus (first_many count values)
  where
    plus : {a b : ℕ} → a ≡ b → a + 1 ≡ suc b
    plus e = omega (arith, e)

stack_many : (sizes : Sizes) (table : List ℕ) (views : ProcessViews) (history : List Entry) (ghosts : Ghosts)
    → Holds sizes (word_at sizes table) views history ghosts
    → length (stack sizes table) ≡ (ghosts.states (state_tag (word_at sizes table))).height
stack_many sizes table views history ghosts h =
    let s = ghosts.states (state_tag (word_at sizes table)) in
    ap (λ xs. length xs) (tables_show sizes table (transfers views) ghosts.states h.stack).heads ∙ first_many s.height s.content

-- all blocks
joined : (l all : ℕ) {kept mine height kept_too held_too height_too : ℕ} → kept + mine + l * height ≡ all → kept_too ≡ kept
    → held_too ≡ mine → height_too ≡ height → kept_too + held_too + l * height_too ≡ all
joined l all counted e f g = rw (e, f, g) counted

-- held blocks, kept ones and those of the stack are all blocks of the pool
pub all_counted : (sizes : Sizes) (table : List ℕ) (views : ProcessViews) (history : List Entry) (ghosts : Ghosts)
    → Holds sizes (word_at sizes table) views history ghosts
    → total sizes.processes (λ i. kept_by sizes table i (views i)) + length (held history) + sizes.length * length
    (stack sizes table) ≡ blocks sizes
all_counted sizes table views history ghosts h =
    let words = word_at sizes table in
    let s = ghosts.states (state_tag words) in
    let mine = held_in ghosts.ledgers in
    let counted = blocks_counted sizes words s views h.chains.batch_blocks h.chains.current_blocks mine h.chains.hold in
    let shared = held_shared (limits_of sizes) (transfer_bound sizes) sizes.quantum history ghosts.ledgers h.entries in
    joined sizes.length (blocks sizes) counted
    (total_same sizes.processes (λ i. kept_blocks sizes s i (views i)) (λ i. kept_by sizes table i (views i))
    (λ i li. kept_said sizes table views history ghosts i li h))
    shared.grips.count
    (stack_many sizes table views history ghosts h)

few : (l kept mine height all most : ℕ) → kept + mine + l * height ≡ all → kept ≤ most → all ≤ mine + l * height + most
few l kept mine height all most counted least = omega (arith, counted, least)

-- all blocks but the slack are held or in the stack
pub few_withheld : (sizes : Sizes) (table : List ℕ) (views : ProcessViews) (history : List Entry) (ghosts : Ghosts) → IsShape sizes
    → Holds sizes (word_at sizes table) views history ghosts
    → blocks sizes ≤ length (held history) + sizes.length * length (stack sizes table) + slack (limits_of sizes) history (length history)
few_withheld sizes table views history ghosts shape h =
    few sizes.length (total sizes.processes (λ i. kept_by sizes table i (views i))) (length (held history))
    (length (stack sizes table)) (blocks sizes) (slack (limits_of sizes) history (length history))
    (all_counted sizes table views history ghosts h)
    (total_le sizes.processes (λ i. kept_by sizes table i (views i)) (allowance (limits_of sizes) (take (length history) history))
    (λ i li. keeps_five sizes table views history ghosts i shape li h))
