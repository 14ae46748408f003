-- a take that is applied with nothing met an empty stack in the middle of the exchange, and then few blocks were free
use Rattle.std.proofs.Common.{◌≡◌, ◌≢◌, ℕ, zero, suc, ◌+◌, ◌-◌, ◌<◌, ◌≤◌, ◌==◌, Bool, true, false, refl, sym, ap, ◌∙◌, length, arith}
use Rattle.std.specs.Prelude.{if◌then◌else◌, slice_index}
use Rattle.std.proofs.lemmas.Bool.Decides.{nat_tests}
use Rattle.process_sums.specs.Sums.{total}
use Rattle.word_layout.specs.Sizes.{Sizes, IsShape, blocks}
use Rattle.word_layout.specs.Packing.{reply_value, reply_of}
use Rattle.word_layout.specs.declared.announced.Wish.{Wish}
use Rattle.word_layout.specs.declared.announced.Wish.TheVariants.{Take, Give}
use Rattle.word_layout.specs.declared.reply.Reply.TheVariants.{Nothing, Took}
use Rattle.word_layout.proofs.Packed.{reply_of-reply_value}
use Rattle.transfer_machine.specs.States.{StackState, with_transfer, answer_to, next_of}
use Rattle.transfer_machine.specs.Tries.{is_pending, is_take, is_odd_transfer, announced_wish}
use Rattle.transfer_machine.specs.declared.transfer.TransferView.{TransferView}
use Rattle.transfer_invariant.specs.Installing.{drafted_state}
use Rattle.transfer_invariant.specs.Memory.{Words}
use Rattle.batch_invariant.specs.Batches.{ProcessViews}
use Rattle.batch_invariant.specs.Premises.{InstallsNext}
use Rattle.batch_invariant.proofs.Applied.{answer_fits, put_here, put_elsewhere}
use Rattle.batch_invariant.proofs.Installing.{unmet_stay, wish_read}
use Rattle.batch_invariant.proofs.Transit.{content_fits, pending_fits}
use Rattle.chain_invariant.specs.Chains.{BlockLists, Chains}
use Rattle.chain_invariant.specs.Laws.{kept_blocks}
use Rattle.chain_invariant.proofs.Counts.{few_free}
use Rattle.chain_invariant.proofs.Moves.{chains_fit, next_chains}

-- a met announcement's reply stays while later ones are met
either_reply : (t : Bool) (x y : StackState) (i reply : ℕ) → x.reply i ≡ reply → y.reply i ≡ reply → (if t then x else y).reply i ≡ reply
either_reply true x y i reply hx hy = hx
either_reply false x y i reply hx hy = hy

one_more_stays : (announcements : ℕ → ℕ) (s : StackState) (i k : ℕ) → i < k
    → (next_of (suc k) announcements s).reply i ≡ (next_of k announcements s).reply i
unfolding next_of
one_more_stays announcements s i k lt =
    let met = next_of k announcements s in
    let transferred : StackState = with_transfer k (announcements k) met in
    either_reply (is_pending (announcements k) (met.reply k)) transferred met i (met.reply i)
    (put_elsewhere k _ met.reply i (λ e. omega arith)) refl

later_stay : (announcements : ℕ → ℕ) (s : StackState) (i more : ℕ)
    → (next_of (suc i + more) announcements s).reply i ≡ (next_of (suc i) announcements s).reply i
later_stay announcements s i zero = let none : suc i + 0 ≡ suc i = omega arith in ap (λ k. (next_of k announcements s).reply i) none
later_stay announcements s i (suc more) =
    let one : suc i + suc more ≡ suc (suc i + more) = omega arith in
    ap (λ k. (next_of k announcements s).reply i) one ∙ one_more_stays announcements s i (suc i + more) (omega arith)
    ∙ later_stay announcements s i more

-- a pending announcement is answered by the state that it meets
pending_reply : (announcements : ℕ → ℕ) (s : StackState) (i : ℕ) → is_pending (announcements i) ((next_of i announcements s).reply i) ≡ true
    → (next_of (suc i) announcements s).reply i ≡ reply_value (is_odd_transfer (announcements i))
    (answer_to (announced_wish (announcements i)) (next_of i announcements s))
unfolding next_of
pending_reply announcements s i e =
    rw e (put_here i (reply_value (is_odd_transfer (announcements i))
    (answer_to (announced_wish (announcements i)) (next_of i announcements s))) (next_of i announcements s).reply)

-- a take that is answered with nothing met an empty stack
nothing_where_empty : (t : Bool) (n head : ℕ) → (n == 0) ≡ t → (if t then Nothing else Took head) ≡ Nothing → n ≡ 0
nothing_where_empty true n head e h = grind (arith, nat_tests)
nothing_where_empty false n head e h = absurd cc

take_found_nothing : (wish : Wish) (s : StackState) → is_take wish ≡ true → answer_to wish s ≡ Nothing → s.height ≡ 0
take_found_nothing Take s take e = nothing_where_empty (s.height == 0) s.height (s.content (s.height - 1)) refl e
take_found_nothing (Give head) s take e = absurd (grind arith)

-- the applied transfers of the drafted state say whose announcement was pending
was_pending : (s : StackState) (v : TransferView) (i : ℕ) (t : Bool) → is_pending (slice_index v.loaded.announcements i) (s.reply i) ≡ t
    → (drafted_state s v).applied i ≢ s.applied i → t ≡ true
unfolding drafted_state
was_pending s v i true e differs = refl
was_pending s v i false e differs = absurd (differs (rw e refl))

-- so the stack was empty when the announcement of such a take was met
module _ (sizes : Sizes) (words : Words) (s : StackState) (views : ProcessViews) (held : BlockLists) (v : TransferView) (i : ℕ)
    (shape : IsShape sizes) (li : i < sizes.processes)
    (chains : Chains sizes words s views held) (installs : InstallsNext sizes s views v) (take : is_take (views i).transfer.wish ≡ true)
    (applied : (drafted_state s v).applied i ≢ s.applied i)
    (nothing : reply_of ((drafted_state s v).reply i) ≡ Nothing) where
  pending : is_pending (slice_index v.loaded.announcements i) (s.reply i) ≡ true
  pending = was_pending s v i (is_pending (slice_index v.loaded.announcements i) (s.reply i)) refl applied

  met_chains : Chains sizes words (next_of i (λ o. slice_index v.loaded.announcements o) s) views held
  met_chains = record {
    batch_blocks = chains.batch_blocks;
    current_blocks = chains.current_blocks;
    hold = next_chains sizes words s views chains.batch_blocks chains.current_blocks held
        (λ o. slice_index v.loaded.announcements o) i shape (omega arith) chains.hold installs.present;
  }

  wish_is : announced_wish (slice_index v.loaded.announcements i) ≡ (views i).transfer.wish
  wish_is =
      let present = installs.present i li in
      let fits = chains_fit sizes words s views chains.batch_blocks chains.current_blocks held shape chains.hold in
      ap announced_wish (present.word pending) ∙ wish_read (views i).transfer.age (views i).transfer.wish
      (pending_fits sizes s views i li fits (present.announced pending) (λ e. omega (arith, present.next pending)))

  reply_is : (drafted_state s v).reply i ≡ (next_of (suc i) (λ o. slice_index v.loaded.announcements o) s).reply i
  reply_is =
      let rest : suc i + (sizes.processes - suc i) ≡ sizes.processes = omega arith in
      installs.drafted.reply i li ∙ sym (ap (λ k. (next_of k (λ o. slice_index v.loaded.announcements o) s).reply i) rest)
      ∙ later_stay (λ o. slice_index v.loaded.announcements o) s i (sizes.processes - suc i)

  answer_is : reply_of ((drafted_state s v).reply i)
      ≡ answer_to (views i).transfer.wish (next_of i (λ o. slice_index v.loaded.announcements o) s)
  answer_is =
      let met = next_of i (λ o. slice_index v.loaded.announcements o) s in
      let unmet = unmet_stay (λ o. slice_index v.loaded.announcements o) s i i (omega arith) in
      let still : is_pending (slice_index v.loaded.announcements i) (met.reply i) ≡ true = rw unmet.0 pending in
      let fits = chains_fit sizes words met views met_chains.batch_blocks met_chains.current_blocks held shape met_chains.hold in
      ap reply_of (reply_is ∙ pending_reply (λ o. slice_index v.loaded.announcements o) s i still)
      ∙ reply_of-reply_value (is_odd_transfer (slice_index v.loaded.announcements i))
      (answer_to (announced_wish (slice_index v.loaded.announcements i)) met)
      (answer_fits met (announced_wish (slice_index v.loaded.announcements i)) (λ place lt. content_fits sizes met views place fits lt))
      ∙ ap (λ wish. answer_to wish met) wish_is

  met_empty : (next_of i (λ o. slice_index v.loaded.announcements o) s).height ≡ 0
  met_empty = take_found_nothing (views i).transfer.wish (next_of i (λ o. slice_index v.loaded.announcements o) s) take
      (sym answer_is ∙ nothing)

  pub found_few : (most : ℕ → ℕ) → ((t : StackState) (o : ℕ) → o < sizes.processes → kept_blocks sizes t o (views o) ≤ most o)
      → blocks sizes ≤ total sizes.processes (λ o. length (held o)) + total sizes.processes most
  found_few most few =
      let met = next_of i (λ o. slice_index v.loaded.announcements o) s in
      few_free sizes words met views met_chains.batch_blocks met_chains.current_blocks held met_chains.hold met_empty most (few met)
