-- what the calls of a pool do to a pass
use Rattle.std.proofs.Common.{◌≡◌, ℕ, ◌+◌, ◌≤◌, List, [], ◌∷◌, refl, sym, ap, ◌∙◌, subst, arith}
use Rattle.std.specs.Prelude.{◌↔◌, Option, None, Some}
use Rattle.std.proofs.lemmas.List.{append-nil}
use Rattle.word_layout.specs.Sizes.{Sizes, limits_of}
use Rattle.word_table.specs.Seats.{Seated, SameSeat}
use Rattle.pool_model.specs.declared.entry.Entry.{Entry}
use Rattle.pool_model.specs.History.{grip}
use Rattle.pool_model.specs.Legal.{IsLegal}
use Rattle.pool_model.proofs.Histories.{grip_more}
use Rattle.transfer_schedule.specs.Numbers.{Numbers, after_choice, after_took_one}
use Rattle.transfer_machine.specs.declared.transfer.TransferView.{TransferView}
use Rattle.pool_machine.specs.declared.call.Call.{Call}
use Rattle.pool_machine.specs.declared.call.Call.TheVariants.{Allocate, Read, Write}
use Rattle.pool_machine.specs.declared.view.PoolView.{PoolView}
use Rattle.pool_table.specs.Minds.{KnownWord, entries_in}
use Rattle.pool_table.specs.Turns.{words_by_call}
use Rattle.pool_table.specs.Views.{SeatView}
use Rattle.block_pool.specs.declared.pool.Answer.{Answer}
use Rattle.block_pool.specs.declared.pool.Answer.TheVariants as answer
use Rattle.block_pool.specs.declared.process.Process.{Process}
use Rattle.block_pool.specs.Moves.{PlanRuns}
use Rattle.block_pool.specs.Passing.{Passed, BetweenCalls, pass_of}
use Rattle.block_pool.specs.Calls.{SamePass, Counted, Entered, HasNoBlock, PlanMoved, Allocated, CallMade, PoolCalled, WordCalled}
use Rattle.block_pool.proofs.Standing.{stands}

-- which pass it is
pub same_pass : (call : Call) (entries : List Entry) (n : ℕ) (s t : Seated SeatView) → SameSeat s t → CallMade call entries n s.view t.view
    → SamePass (pass_of s) (pass_of t)
same_pass call entries n s t same made =
    record { table = same.0; sizes = ap (λ (v : SeatView). v.sizes) made.stays; number = made.number }

-- a seat that has taken in no other one has still taken in none
pub still_bare : (call : Call) (entries : List Entry) (n : ℕ) (v w : SeatView) → CallMade call entries n v w → v.taken ≡ [] → w.taken ≡ []
still_bare call entries n v w made bare = ap (λ (u : SeatView). u.taken) made.stays ∙ bare

-- its steps
pub counted_so : (sizes : Sizes) (call : Call) (entries : List Entry) (owned : Numbers → Numbers) (before after : ℕ) (x y : Process)
    → x.seat.view.sizes ≡ sizes → PoolCalled sizes call entries owned before after x y
    → Counted x.seat.view.sizes.quantum before after (pass_of x.seat) (pass_of y.seat)
counted_so sizes call entries owned before after x y shape called = record {
  moved = called.moved;
  few = subst (λ (z : Sizes). called.moved ≤ z.quantum) (sym shape) called.few;
  steps = called.steps;
  moves = called.made.moves;
}

-- its entry
pub entered_so : (call : Call) (entry : Entry) (n : ℕ) (s t : Seated SeatView) → CallMade call (entry ∷ []) n s.view t.view
    → Entered entry (pass_of s) (pass_of t)
entered_so call entry n s t made = record {
  own = made.entries_after;
  seen = made.seen;
  held = ap grip made.entries_after ∙ grip_more (entries_in s.view.mind) entry;
}

-- its plan
pub plan_so : (sizes : Sizes) (call : Call) (entries : List Entry) (owned : Numbers → Numbers) (before after : ℕ) (x y : Process)
    → BetweenCalls sizes x → BetweenCalls sizes y → (called : PoolCalled sizes call entries owned before after x y)
    → (plan : PlanMoved owned (pass_of x.seat) (pass_of y.seat)) × (plan.ran ≡ called.ran)
plan_so sizes call entries owned before after x y f g called = (
  record {
    moved = called.moved;
    moves = called.made.moves;
    ran = called.ran;
    runs = subst (λ (z : Sizes). PlanRuns z.quantum (after_choice x.seat.view.mind.view.pool.plan) called.moved called.ran) (sym f.shape)
        (subst (λ (p : PoolView). PlanRuns sizes.quantum (after_choice p.plan) called.moved called.ran) (sym f.pool) called.runs);
    own = ap (λ (p : PoolView). p.plan) g.pool ∙ called.own;
  },
  refl,
)

-- its age
pub age_so : (sizes : Sizes) (call : Call) (entries : List Entry) (owned : Numbers → Numbers) (before after : ℕ) (x y : Process)
    → BetweenCalls sizes x → BetweenCalls sizes y → PoolCalled sizes call entries owned before after x y
    → (pass_of y.seat).age ≤ (pass_of x.seat).age + 1
age_so sizes call entries owned before after x y f g called =
    let old = ap (λ (t : TransferView). t.age) f.transfer in
    let new = ap (λ (t : TransferView). t.age) g.transfer in
    let age = called.age in
    omega (arith, old, new, age)

-- an allocate
pub allocated_so : (sizes : Sizes) (entries : List Entry) (before after : ℕ) (x y : Process) (got : Option ℕ) (a : Answer)
    → BetweenCalls sizes x → BetweenCalls sizes y → (called : PoolCalled sizes Allocate entries after_took_one before after x y)
    → ((got ≡ None) ↔ HasNoBlock called.ran) → ((a ≡ answer.Dry) ↔ (got ≡ None)) → Allocated a (pass_of x.seat) (pass_of y.seat)
unfolding plan_so
allocated_so sizes entries before after x y got a f g called none is = record {
  plan = (plan_so sizes Allocate entries after_took_one before after x y f g called).0;
  dry = ((λ e. none.0 (is.0 e)), (λ e. is.1 (none.1 e)));
}

-- a block was got exactly where it isn't none
pub got_is_some : (block : ℕ) → (answer.Got block ≡ answer.Dry) ↔ (Some block ≡ None)
got_is_some block = ((λ e. absurd (grind arith)), (λ e. absurd (grind arith)))

-- the answer is Dry exactly where no block was got
pub dry_is_none : (got : Option ℕ) → got ≡ None → (answer.Dry ≡ answer.Dry) ↔ (got ≡ None)
dry_is_none got e = ((λ _. e), (λ _. refl))

-- what it has seen
pub legal_so : (sizes : Sizes) (call : Call) (entries : List Entry) (n : ℕ) (x y : Process) → BetweenCalls sizes y
    → CallMade call entries n x.seat.view y.seat.view → IsLegal (limits_of x.seat.view.sizes) y.seat.view.mind.seen
legal_so sizes call entries n x y g made =
    subst (λ (z : Sizes). IsLegal (limits_of z) y.seat.view.mind.seen) (ap (λ (v : SeatView). v.sizes) made.stays) (stands sizes y g).legal

-- a pass is what clauses see of it
same_passed : (a b : Passed) → a.table ≡ b.table → a.sizes ≡ b.sizes → a.number ≡ b.number → a.seen ≡ b.seen → a.own ≡ b.own
    → a.held ≡ b.held → a.known ≡ b.known → a.plan ≡ b.plan → a.age ≡ b.age → a.moves ≡ b.moves → a ≡ b
same_passed a b table sizes number seen mine held known plan age moves = λ i. record {
  table = table i;
  sizes = sizes i;
  number = number i;
  seen = seen i;
  own = mine i;
  held = held i;
  known = known i;
  plan = plan i;
  age = age i;
  moves = moves i;
}

-- a read or a write
word_called : (sizes : Sizes) (call : Call) (before after : ℕ) (x y : Process) (known : List KnownWord) → BetweenCalls sizes x
    → WordCalled sizes call before after x y → words_by_call (Some call) x.seat.view.mind.known ≡ known
    → pass_of y.seat ≡ record (pass_of x.seat) { known = known; moves = x.seat.view.mind.moves + 1 }
word_called sizes call before after x y known f called knows =
    let made = called.made in
    let mine : entries_in y.seat.view.mind ≡ entries_in x.seat.view.mind = made.entries_after ∙ append-nil (entries_in x.seat.view.mind) in
    let moves = made.moves in
    same_passed (pass_of y.seat) (record (pass_of x.seat) { known = known; moves = x.seat.view.mind.moves + 1 })
    called.seat.0 (ap (λ (v : SeatView). v.sizes) made.stays) made.number made.seen mine (ap grip mine) (made.known ∙ knows)
    (ap (λ (p : PoolView). p.plan) (called.between.pool ∙ (called.pool ∙ sym f.pool)))
    (ap (λ (t : TransferView). t.age) (called.between.transfer ∙ (called.transfer ∙ sym f.transfer))) (omega (arith, moves))

-- a read changes nothing of its pass but for one move
pub read_so : (sizes : Sizes) (block index before after : ℕ) (x y : Process) → BetweenCalls sizes x
    → WordCalled sizes (Read block index) before after x y → pass_of y.seat ≡ record (pass_of x.seat) { moves = x.seat.view.mind.moves + 1 }
read_so sizes block index before after x y f called =
    word_called sizes (Read block index) before after x y x.seat.view.mind.known f called refl

-- a write makes one move, and its pass knows the word
pub write_so : (sizes : Sizes) (block index value before after : ℕ) (x y : Process) → BetweenCalls sizes x
    → WordCalled sizes (Write block index value) before after x y → pass_of y.seat ≡ record (pass_of x.seat) {
      moves = x.seat.view.mind.moves + 1;
      known = record { block = block; index = index; value = value } ∷ x.seat.view.mind.known;
    }
write_so sizes block index value before after x y f called =
    word_called sizes (Write block index value) before after x y
    (record { block = block; index = index; value = value } ∷ x.seat.view.mind.known) f called refl
