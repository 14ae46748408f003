-- how many blocks a process holds
use Rattle.std.proofs.Common.{◌≡◌, ℕ, ◌+◌, ◌≤◌, List, [], ◌∷◌, ◌++◌, length, ap, ◌∙◌, arith}
use Rattle.std.specs.Prelude.{count_by}
use Rattle.word_layout.specs.Sizes.{Sizes, most_blocks, limits_of}
use Rattle.pool_model.specs.declared.entry.Entry.{Entry}
use Rattle.pool_model.specs.declared.entry.Entry.TheVariants.{Got, Back}
use Rattle.pool_model.specs.History.{grip, is_got, is_back}
use Rattle.pool_model.proofs.Histories.{grip_more}
use Rattle.history_invariant.specs.Grips.{Balances}
use Rattle.history_invariant.proofs.Shared.{legal_shared, gots_more, backs_more}
use Rattle.pool_table.specs.Minds.{number_of, entries_in, held_in}
use Rattle.pool_seats.proofs.Settling.{each_holds_few}
use Rattle.block_pool.specs.declared.process.Process.{Process}
use Rattle.block_pool.specs.Passing.{BetweenCalls}
use Rattle.block_pool.proofs.Standing.{seat_at, stands}

-- as many were got as were given back or are held
balanced : (sizes : Sizes) (x : Process) → BetweenCalls sizes x → Balances (entries_in x.seat.view.mind)
balanced sizes x f =
    let v = x.seat.view in
    (legal_shared (limits_of v.sizes) v.mind.seen (stands sizes x f).legal).balance (number_of v.mind) (seat_at sizes x f).low

-- a process holds no more blocks than a pool may have
pub holds_few : (sizes : Sizes) (x : Process) → BetweenCalls sizes x → length (held_in x.seat.view.mind) ≤ most_blocks
holds_few sizes x f =
    let all = each_holds_few x.seat.view f.among f.of_process in
    let most = (seat_at sizes x f).holds.shape.few_blocks in
    omega (arith, all, most)

-- an allocate that gets a block adds one, a free takes one away
pub holds_one_more : (by block : ℕ) (old new : List Entry) → new ≡ old ++ Got by block ∷ [] → length (grip new) ≡ length (grip old) + 1
holds_one_more by block old new e = ap (λ l. length (grip l)) e ∙ (ap length (grip_more old (Got by block)) ∙ omega arith)

one_less : (gots backs mine gots' backs' mine' : ℕ) → gots ≡ backs + mine → gots' ≡ backs' + mine' → gots' ≡ gots + 0 → backs' ≡ backs + 1
    → mine ≡ mine' + 1
one_less gots backs mine gots' backs' mine' a b c d = omega arith

-- after a free its pass holds one block fewer
pub holds_one_less : (sizes : Sizes) (x y : Process) (by block : ℕ) → BetweenCalls sizes x → BetweenCalls sizes y
    → entries_in y.seat.view.mind ≡ entries_in x.seat.view.mind ++ Back by block ∷ []
    → length (held_in x.seat.view.mind) ≡ length (held_in y.seat.view.mind) + 1
holds_one_less sizes x y by block f g e =
    let old = entries_in x.seat.view.mind in
    let new = entries_in y.seat.view.mind in
    one_less (count_by is_got old) (count_by is_back old) (length (grip old))
    (count_by is_got new) (count_by is_back new) (length (grip new))
    (balanced sizes x f) (balanced sizes y g) (ap (λ l. count_by is_got l) e ∙ gots_more old (Back by block))
    (ap (λ l. count_by is_back l) e ∙ backs_more old (Back by block))
