-- What is found in a slot, and how a slot is emptied.
use Rattle.std.proofs.Common.{◌≡◌, ℕ, ◌<◌, true, false, Option, Some, None, List, length, get_or, set, refl, sym, ap, ◌∙◌}
use Rattle.std.specs.Option.{is_some}
use Rattle.std.proofs.lemmas.List.{get_or_default, set-get_or}
use Rattle.store_script.specs.declared.quad.Quad.{Quad}
use Rattle.object_store.specs.Objects.{ObjectView}
use Rattle.store_player.specs.Playing.{object_in}

-- what was read at a slot is what it has
pub found_at : (slots : List (Option (ObjectView Quad))) (slot : ℕ) (default read found : Option (ObjectView Quad)) → slot < length slots
    → read ≡ get_or slots slot default → read ≡ found → object_in slots slot ≡ found
found_at slots slot default read found within was is = get_or_default slots slot None default within ∙ sym was ∙ is

-- an empty slot that is emptied stays as it is
pub emptied_again : (slots : List (Option (ObjectView Quad))) (slot : ℕ) → object_in slots slot ≡ None → set slots slot None ≡ slots
emptied_again slots slot has = ap (set slots slot) (sym has) ∙ set-get_or slots slot None

-- a slot that isn't empty has an object
pub has_some : (found : Option (ObjectView Quad)) → is_some found ≡ true → (object : ObjectView Quad) × (found ≡ Some object)
has_some None is = absurd (cc)
has_some (Some object) is = (object, refl)

-- an empty one has none
pub has_none : (found : Option (ObjectView Quad)) → is_some found ≡ false → found ≡ None
has_none None is = refl
has_none (Some object) is = absurd (cc)
