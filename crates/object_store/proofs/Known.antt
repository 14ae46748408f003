-- What is known of a block's words after writes, and after a free.
use Rattle.std.proofs.Common.{◌≡◌, ◌≢◌, ℕ, ◌+◌, ◌<◌, ◌==◌, zero, suc, Option, None, Some, List, [], ◌∷◌, refl, sym, ap, ◌∙◌, arith}
use Rattle.std.specs.Prelude.{if◌then◌else◌, ◌&&◌, slice_index}
use Rattle.std.proofs.lemmas.Bool.Decides.{nat_tests}
use Rattle.pool_table.specs.Minds.{KnownWord, known_in}
use Rattle.pool_table.specs.Turns.{forget}
use Rattle.pool_table.proofs.Data.{forget_forgets}
use Rattle.object_store.specs.Objects.{KnowsWords}
use Rattle.object_store.specs.Calls.{written}

-- one word more, in the same block
one_here : (block index count value want : ℕ) (others : Option ℕ) → (index < count → others ≡ Some want) → (index ≡ count → value ≡ want)
    → index < suc count → (if block == block && (index == count) then Some value else others) ≡ Some want
one_here block index count value want others below at less = grind (arith, nat_tests)

-- one word more, in another block
one_there : (block other index count value : ℕ) (others : Option ℕ) → other ≢ block
    → (if other == block && (index == count) then Some value else others) ≡ others
one_there block other index count value others differs = grind (arith, nat_tests)

-- the words that were written are known
pub written_here : (block : ℕ) (words : List ℕ) (count : ℕ) (known : List KnownWord)
    → KnowsWords (written block words count known) block count words
written_here block words zero known index less = absurd (omega arith)
written_here block words (suc count) known index less =
    one_here block index count (slice_index words count) (slice_index words index) (known_in (written block words count known) block index)
    (written_here block words count known index) (λ same. ap (slice_index words) (sym same)) less

-- the words of other blocks are known as before
pub written_there : (block : ℕ) (words : List ℕ) (count : ℕ) (known : List KnownWord) (other index : ℕ) → other ≢ block
    → known_in (written block words count known) other index ≡ known_in known other index
written_there block words zero known other index differs = refl
written_there block words (suc count) known other index differs =
    one_there block other index count (slice_index words count) (known_in (written block words count known) other index) differs
    ∙ written_there block words count known other index differs

not_forgotten : (freed other : ℕ) (was : Option ℕ) → other ≢ freed → (if other == freed then None else was) ≡ was
not_forgotten freed other was differs = grind (arith, nat_tests)

-- so they are after a free
pub forgotten_there : (freed : ℕ) (known : List KnownWord) (other index : ℕ) → other ≢ freed
    → known_in (forget freed known) other index ≡ known_in known other index
forgotten_there freed known other index differs =
    forget_forgets freed known other index ∙ not_forgotten freed other (known_in known other index) differs
