-- What is written of a text, and what a page has of it.
use Rattle.std.specs.Prelude.{◌≡◌, ℕ, List, ◌++◌, Result, OnOk}
use Rattle.pool_io.specs.declared.sink.Sink.{Ghosts}
use Rattle.pool_io.specs.Writes.{Writes}

-- A text was added to a page: what was written and what is left are what the page had and the text. After Ok the page has what is left.
pub record Adds {K T E : Type 0} (sink : Ghosts K) (text : List ℕ) (before after : K) (page new : List ℕ)
    (result : Result T E) : Type 0 where
  pub written : List ℕ
  pub left : List ℕ
  pub writes : Writes sink written before after result
  pub whole : page ++ text ≡ written ++ left
  pub kept : OnOk result (new ≡ left)
