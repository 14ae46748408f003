-- the answer of a call changes what its own process keeps, as much as what is held, and what no other does
use Rattle.std.proofs.Common.{◌≡◌, ◌≢◌, ℕ, ◌+◌, ◌*◌, ◌<◌, Bool, true, false, List, length, refl, sym, ap, ◌∙◌, subst, arith}
use Rattle.std.specs.Prelude.{if◌then◌else◌}
use Rattle.std.proofs.lemmas.Bool.{false≢true}
use Rattle.word_layout.specs.Sizes.{Sizes}
use Rattle.word_layout.specs.Names.{word_at}
use Rattle.word_layout.specs.declared.name.WordName.TheVariants.{Announcement}
use Rattle.process_sums.proofs.Sums.{total_moved}
use Rattle.pool_model.specs.declared.entry.Entry.{Entry}
use Rattle.transfer_machine.specs.Tries.{is_pending}
use Rattle.transfer_machine.specs.Words.{acted, met_word, stack}
use Rattle.transfer_machine.specs.declared.action.Action.{Action}
use Rattle.pool_machine.specs.declared.call.CallStage.{CallStage}
use Rattle.pool_machine.specs.declared.call.CallStage.TheVariants.{Between, Choosing, Moving, Own}
use Rattle.pool_machine.specs.declared.view.ProcessView.{ProcessView}
use Rattle.transfer_invariant.specs.Memory.{Acted}
use Rattle.interleaving_core.specs.CallLaws.{answers_call, KeptFollowsCalls}
use Rattle.interleaving_core.specs.Kept.{kept, reply_value_at, announced_batches, given_batches}
use Rattle.word_layout.specs.Packing.{reply_of}
use Rattle.transfer_invariant.specs.Progress.{has_announced, has_only_begun}
use Rattle.interleaving_core.specs.Moves.{CoreState, view_at, with_step}
use Rattle.interleaving_core.specs.Runs.{turns, Turn, by_of, is_made, turning_view, after_turn, turn_answer}
use Rattle.interleaving_core.specs.Steps.{is_alone, next_action, next_answer}
use Rattle.interleaving_core.specs.TransferLaws.{content_of, moves_transfer}
use Rattle.interleaving_core.proofs.OwnParts.{own_leaves_stack}
use Rattle.interleaving_core.proofs.Runs.{RunFits, run_fits, turn_low, turn_busy}
use Rattle.interleaving_core.proofs.RunTurns.{run_sizes, turn_sizes}
use Rattle.interleaving_core.proofs.RunContent.{own_acts, own_step_leaves}
use Rattle.interleaving_core.proofs.CallLaws.{all_are_counted}
use Rattle.interleaving_core.proofs.CallLawsData.{turn_acts}
use Rattle.interleaving_core.proofs.CallLawsShort.{other_view}

-- a step of a transfer answers no call, and no more does a turn that isn't made
moves_silent : (v : ProcessView) (word : ℕ) (t : Bool) (stage : CallStage) → is_alone v.calls.way ≡ t → v.calls.stage ≡ stage
    → moves_transfer v ≡ true → answers_call (next_answer v word) ≡ false
moves_silent v word true stage alone here moves = rw alone refl
moves_silent v word false Between alone here moves = absurd (false≢true (rw (alone, here) at moves))
moves_silent v word false Choosing alone here moves = absurd (false≢true (rw (alone, here) at moves))
moves_silent v word false Moving alone here moves = rw (alone, here) refl
moves_silent v word false Own alone here moves = absurd (false≢true (rw (alone, here) at moves))

isnt_true : (t : Bool) → (t ≡ true → ⊥) → t ≡ false
isnt_true true never = absurd (never refl)
isnt_true false never = refl

is_true : (t : Bool) → (t ≡ false → ⊥) → t ≡ true
is_true true never = refl
is_true false never = absurd (never refl)

answer_made : (s : CoreState) (turn : Turn) → answers_call (turn_answer turn s) ≡ true → is_made turn s ≡ true
answer_made s turn answers = is_true (is_made turn s) (λ off. false≢true (rw off at answers))

answer_owns : (s : CoreState) (turn : Turn) → is_made turn s ≡ true → answers_call (turn_answer turn s) ≡ true
    → moves_transfer (turning_view turn s) ≡ false
answer_owns s turn made answers =
    let v = turning_view turn s in
    let word = met_word s.sizes s.words (next_action s.sizes v) in
    let told : answers_call (next_answer v word) ≡ true = rw made at answers in
    isnt_true (moves_transfer v) (λ moves. false≢true (sym (moves_silent v word (is_alone v.calls.way) v.calls.stage refl refl moves)
    ∙ told))

-- what the others keep
announcement_stays : (s : CoreState) (history : List Entry) (turn : Turn) (o : ℕ) → RunFits s history → is_made turn s ≡ true
    → moves_transfer (turning_view turn s) ≡ false → o < s.sizes.processes
    → word_at s.sizes (with_step (by_of turn) (turning_view turn s) s).words (Announcement o) ≡ word_at s.sizes s.words (Announcement o)
announcement_stays s history turn o fits made own lo =
    let v = turning_view turn s in
    let words = word_at s.sizes s.words in
    let new = word_at s.sizes (acted s.sizes s.words (next_action s.sizes v)) in
    let busy = turn_busy s history turn fits made (turn_low s turn made) in
    let acts = subst (λ (a : Action). Acted s.sizes a words new)
    (own_acts s.sizes v (is_alone v.calls.way) v.calls.stage refl refl busy own) (turn_acts s history turn fits made) in
    own_leaves_stack s.sizes words new v.pool v.calls.call acts (Announcement o) lo refl

same_kept : (sizes : Sizes) (x v : ProcessView) (word new reply value : ℕ) → x ≡ v → new ≡ word → value ≡ reply
    → x.pool.plan.current + sizes.length * (length x.pool.heads
    + (if has_only_begun x.transfer.next then given_batches x.transfer.wish else (if has_announced x.transfer.next
    then announced_batches (is_pending new value) x.transfer.wish (reply_of value) else 0)))
    ≡ v.pool.plan.current + sizes.length * (length v.pool.heads
    + (if has_only_begun v.transfer.next then given_batches v.transfer.wish else (if has_announced v.transfer.next
    then announced_batches (is_pending word reply) v.transfer.wish (reply_of reply) else 0)))
same_kept sizes x v word new reply value e f g = rw (e, f, g) refl

others_keep : (s : CoreState) (history : List Entry) (turn : Turn) (o : ℕ) → RunFits s history → is_made turn s ≡ true
    → moves_transfer (turning_view turn s) ≡ false → o < s.sizes.processes → o ≢ by_of turn
    → kept (with_step (by_of turn) (turning_view turn s) s) o ≡ kept s o
others_keep s history turn o fits made own lo ne =
    let after = with_step (by_of turn) (turning_view turn s) s in
    same_kept s.sizes (view_at after o) (view_at s o) (word_at s.sizes s.words (Announcement o))
    (word_at s.sizes after.words (Announcement o))
    (reply_value_at s.sizes s.words o) (reply_value_at s.sizes after.words o)
    (other_view s turn o true (λ e. ne (sym e)))
    (announcement_stays s history turn o fits made own lo)
    ((own_step_leaves s history turn fits made own).replies o lo)

-- so what its own process keeps changes as what is held
moved : (all now old mine_kept mine_kept_now mine mine_now stack stack_now : ℕ) → now + mine_now + stack_now ≡ all
    → old + mine + stack ≡ all
    → stack_now ≡ stack → now + mine_kept ≡ old + mine_kept_now → mine_kept_now + mine_now ≡ mine_kept + mine
moved all now old mine_kept mine_kept_now mine mine_now stack stack_now first second same sums = omega (arith, first, second, same, sums)

low_as : (sizes : Sizes) (s : CoreState) (o : ℕ) → s.sizes ≡ sizes → o < sizes.processes → o < s.sizes.processes
low_as sizes s o e lo = rw e lo

low_of : (sizes : Sizes) (s : CoreState) (o : ℕ) → s.sizes ≡ sizes → o < s.sizes.processes → o < sizes.processes
low_of sizes s o e lo = rw (← e) lo

stack_same : (sizes : Sizes) (s : CoreState) (turn : Turn) → s.sizes ≡ sizes → content_of (after_turn turn s) ≡ content_of s
    → stack sizes (after_turn turn s).words ≡ stack sizes s.words
stack_same sizes s turn e content =
    ap (λ (z : Sizes). stack z (after_turn turn s).words) (sym (turn_sizes turn s ∙ e))
    ∙ (content ∙ ap (λ (z : Sizes). stack z s.words) e)

-- what a process keeps follows from the answers of its own calls
pub kept_follows_calls : KeptFollowsCalls
kept_follows_calls sizes past history s run turn answers =
    let fits = run_fits sizes past history s run in
    let same = run_sizes sizes past history s run in
    let made = answer_made s turn answers in
    let own = answer_owns s turn made answers in
    let v = turning_view turn s in
    let i = by_of turn in
    let after = with_step i v s in
    let is : after_turn turn s ≡ after = rw made refl in
    let others : (o : ℕ) → o < s.sizes.processes → o ≢ i → kept (after_turn turn s) o ≡ kept s o =
    λ o lo ne. ap (λ (u : CoreState). kept u o) is ∙ others_keep s history turn o fits made own lo ne in
    let content : content_of (after_turn turn s) ≡ content_of s =
    ap content_of is ∙ (own_step_leaves s history turn fits made own).content in
    let first = all_are_counted sizes _ _ (after_turn turn s) (turns past history s turn run) in
    let second = all_are_counted sizes past history s run in
    let li = low_of sizes s i same (turn_low s turn made) in
    record {
      own =
          moved _ _ _ _ _ _ _ _ _ first second (ap (λ (heads : List ℕ). sizes.length * length heads) (stack_same sizes s turn same content))
          (total_moved sizes.processes i (kept s) (kept (after_turn turn s)) li (λ o lo ne. others o (low_as sizes s o same lo) ne));
      others = others;
    }
