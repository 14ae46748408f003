-- A history is a list of entries, the first call first. Place y of a history is its prefix of length y, `take y history`.
use Rattle.std.specs.Prelude.{ℕ, ◌-◌, ◌*◌, ◌≤◌, Bool, true, false, not, ◌==◌, List, [], ◌∷◌, length, take, fold, filter, count_by}
use Rattle.pool_model.specs.declared.entry.Entry.{Entry}
use Rattle.pool_model.specs.declared.entry.Entry.TheVariants.{Got, Back, Dry}
use Rattle.pool_model.specs.Limits.{Limits}
use Rattle.process_sums.specs.Sums.{total}

-- the process that made the entry
abbrev pub process_of : Entry → ℕ
process_of (Got by block) = by
process_of (Back by block) = by
process_of (Dry by) = by

-- the entries of process i, in their order
abbrev pub own : List Entry → ℕ → List Entry
own history i = filter (λ entry. process_of entry == i) history

-- what one more entry makes of the held blocks: Got adds its block, Back removes its block, all others change nothing
abbrev pub held_after : List ℕ → Entry → List ℕ
held_after blocks (Got by block) = block ∷ blocks
held_after blocks (Back by block) = filter (λ other. not (other == block)) blocks
held_after blocks (Dry by) = blocks

-- the blocks that are held after a history
abbrev pub held : List Entry → List ℕ
held history = fold held_after [] history

-- how many blocks are not held at a place of the history
abbrev pub unheld : Limits → List Entry → ℕ → ℕ
unheld limits history place = limits.blocks - length (held (take place history))

-- how many blocks a process may withhold, so that nobody else can get them, after this past
abbrev pub allowance : Limits → List Entry → ℕ → ℕ
allowance limits past i = 5 * limits.batch_length

-- how many blocks may be unheld at a place of the history where an allocate is refused: the allowances of all processes
abbrev pub slack : Limits → List Entry → ℕ → ℕ
slack limits history place = total limits.processes (allowance limits (take place history))

-- at the place no more blocks than the slack are unheld
abbrev pub HasFewUnheld : Limits → List Entry → ℕ → Type 0
HasFewUnheld limits history place = unheld limits history place ≤ slack limits history place

-- what one more entry of a process makes of its grip: Got adds its block, Back removes its block, all others change nothing
abbrev pub grip_after : List ℕ → Entry → List ℕ
grip_after blocks (Got by block) = block ∷ blocks
grip_after blocks (Back by block) = filter (λ other. not (other == block)) blocks
grip_after blocks (Dry by) = blocks

-- the grip of a process: the blocks that its entries got and after that did not give back
abbrev pub grip : List Entry → List ℕ
grip entries = fold grip_after [] entries

-- whether the entry gave a block to its caller
abbrev pub is_got : Entry → Bool
is_got (Got by block) = true
is_got (Back by block) = false
is_got (Dry by) = false

-- whether the entry took a block back
abbrev pub is_back : Entry → Bool
is_back (Got by block) = false
is_back (Back by block) = true
is_back (Dry by) = false

-- how many more blocks were got than given back
abbrev pub net : List Entry → ℕ
net entries = count_by is_got entries - count_by is_back entries
