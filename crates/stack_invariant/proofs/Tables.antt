-- the stack that the words of a table hold
use Rattle.std.proofs.Common.{◌≡◌, ℕ, zero, suc, ◌<◌, refl, arith}
use Rattle.std.specs.Prelude.{List}
use Rattle.word_layout.specs.Sizes.{Sizes}
use Rattle.word_layout.specs.Names.{word_at}
use Rattle.transfer_machine.specs.States.{StackState}
use Rattle.transfer_machine.specs.Words.{stack_height, stack_at, first_of, stack}
use Rattle.transfer_invariant.specs.Memory.{current_record, word_value, slot_value}
use Rattle.stack_invariant.specs.Shown.{shown_base, shown_height, shown_head, Shows, TableShows}
use Rattle.stack_invariant.specs.Laws.{TablesShowState}
use Rattle.stack_invariant.proofs.Content.{words_show}

-- lists of the same first values
pub first_same : (count : ℕ) (f g : ℕ → ℕ) → ((k : ℕ) → k < count → f k ≡ g k) → first_of count f ≡ first_of count g
unfolding first_of
first_same zero f g h = refl
first_same (suc count) f g h = rw (first_same count f g (λ k lt. h k (omega arith)), h count (omega arith)) refl

heads_same : (sizes : Sizes) (table : List ℕ) (s : StackState) → stack_height sizes table ≡ s.height
    → ((place : ℕ) → place < s.height → stack_at sizes table place ≡ s.content place)
    → stack sizes table ≡ first_of s.height s.content
heads_same sizes table s height content = rw height (first_same s.height (stack_at sizes table) s.content content)

-- the table shows what its words show
table_shows : (sizes : Sizes) (table : List ℕ) (s : StackState) → Shows sizes.processes (word_at sizes table) s → TableShows sizes table s
unfolding shown_base shown_height shown_head current_record word_value slot_value
table_shows sizes table s h = record {
  base = h.base;
  height = h.height;
  content = h.content;
  heads = heads_same sizes table s h.height h.content;
}

-- the words of a table show the present state
pub tables_show : TablesShowState
tables_show sizes table views states h = table_shows sizes table _ (words_show sizes (word_at sizes table) views states h)
