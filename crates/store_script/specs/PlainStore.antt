-- What a plain store has after a walk.
use Rattle.std.specs.Prelude.{◌≡◌, ℕ, option_map}
use Rattle.std.specs.Ordering.{nat_cmp}
use Rattle.std.specs.BTreeMap.{get}
use Rattle.store_script.specs.Replies.{Walk, kept}
use Rattle.store_script.specs.declared.replies.PlainStore.{PlainStore}

-- at each key the numbers that are kept there, as many puts of absent keys, and the answers
pub record IsAfter (store : PlainStore) (walk : Walk) : Type 0 where
  pub values : (key : ℕ) → get nat_cmp store.present key ≡ option_map (λ before. before.value) (kept walk key)
  pub puts : store.puts ≡ walk.puts
  pub answers : store.answers.items ≡ walk.answers

-- a store goes along with every walk that makes this step
abbrev pub Carries : PlainStore → PlainStore → (Walk → Walk) → Type 0
Carries before after step = (walk : Walk) → IsAfter before walk → IsAfter after (step walk)
