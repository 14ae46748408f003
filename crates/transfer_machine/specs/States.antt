-- The states of the shared stack, and what transfers make of one. Nothing here speaks of words.
use Rattle.std.specs.Prelude.{ℕ, zero, suc, ◌+◌, ◌-◌, ◌==◌, min, if◌then◌else◌}
use Rattle.word_layout.specs.Packing.{reply_value}
use Rattle.word_layout.specs.declared.announced.Wish.{Wish}
use Rattle.word_layout.specs.declared.announced.Wish.TheVariants.{Take, Give}
use Rattle.word_layout.specs.declared.reply.Reply.{Reply}
use Rattle.word_layout.specs.declared.reply.Reply.TheVariants.{Nothing, Took, Gave}
use Rattle.transfer_machine.specs.Tries.{is_odd_transfer, is_pending, announced_wish}

-- a state: its content's heads by their places, how many the state before left alone, and each process's reply and applied transfers
pub record StackState : Type 0 where
  pub base : ℕ
  pub height : ℕ
  pub content : ℕ → ℕ
  pub reply : ℕ → ℕ
  pub applied : ℕ → ℕ

-- a function with another value at one place
abbrev pub put : ℕ → ℕ → (ℕ → ℕ) → ℕ → ℕ
put place value values k = if k == place then value else values k

-- a give adds its head at the end
abbrev pub with_given : ℕ → StackState → StackState
with_given head s = record s { height = s.height + 1; content = put s.height head s.content }

-- a take removes the last head
abbrev pub with_taken : StackState → StackState
with_taken s = record s { height = s.height - 1; base = min s.base (s.height - 1) }

-- what a wish makes of the content
abbrev pub with_wish : Wish → StackState → StackState
with_wish Take s = with_taken s
with_wish (Give head) s = with_given head s

-- what a wish is answered: a take the last head, or nothing where there is none
abbrev pub answer_to : Wish → StackState → Reply
answer_to Take s = if s.height == 0 then Nothing else Took (s.content (s.height - 1))
answer_to (Give head) s = Gave

-- a transfer of a process is applied
abbrev pub with_transfer : ℕ → ℕ → StackState → StackState
with_transfer process word s = record (with_wish (announced_wish word) s) {
  reply = put process (reply_value (is_odd_transfer word) (answer_to (announced_wish word) s)) s.reply;
  applied = put process (s.applied process + 1) s.applied;
}

-- the announcement of a process is met: where it is pending its transfer is applied
abbrev pub with_announcement : ℕ → ℕ → StackState → StackState
with_announcement process word s = if is_pending word (s.reply process) then with_transfer process word s else s

-- a try begins: it leaves all content alone so far
abbrev pub try_begun : StackState → StackState
try_begun s = record s { base = s.height }

-- the state that a try makes of one: the announcements of the first so many processes, in their order
unfoldable pub next_of : ℕ → (ℕ → ℕ) → StackState → StackState
next_of zero announcements s = try_begun s
next_of (suc process) announcements s = with_announcement process (announcements process) (next_of process announcements s)
