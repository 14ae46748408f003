-- Players, each with a pass, a script and a gate of its own.
use Rattle.std.specs.Prelude.{◌≡◌, ℕ, ◌<◌, Some, List, length, map, slice_get, slice_index_or}
use Rattle.word_layout.specs.Sizes.{Sizes}
use Rattle.block_pool.specs.Passing.{Passed, Pooled}
use Rattle.pass_players.specs.Moments.{Moment}
use Rattle.pass_players.specs.Playing.{Course, MayPlay, PlayedOnce}
use Rattle.pass_players.specs.declared.players.GatedPlayer.{GatedPlayer}
use Rattle.pass_players.specs.declared.players.PassPlayer.{PassPlayer}

-- each player is ready for the script of its place
abbrev pub AreReady : {S P : Type 0} → (S → P → Type 0) → List S → List (PassPlayer P) → Type 0
AreReady {S} {P} is_ready scripts players = (k : ℕ) (one : PassPlayer P) (script : S) → slice_get players k ≡ Some one
    → slice_get scripts k ≡ Some script → is_ready script one.player

-- there is a player for each pass, which is ready for the script of the same place
pub record AreGathered {S P : Type 0} (is_ready : S → P → Type 0) (passes : List Passed) (scripts : List S)
    (players : List (PassPlayer P)) : Type 0 where
  pub passes_are : map (λ one. one.pass) players ≡ passes
  pub many : length players ≡ length scripts
  pub ready : AreReady is_ready scripts players

-- a player may play the script of this place
pub record CanPlayAt {S P : Type 0} (suits : Sizes → S → Type 0) (most_calls : S → ℕ) (is_ready : S → P → Type 0) (pool : Pooled)
    (scripts : List S) (k : ℕ) (one : PassPlayer P) : Type 0 where
  pub may : (script : S) → slice_get scripts k ≡ Some script → MayPlay suits most_calls pool one.pass script
  pub ready : (script : S) → slice_get scripts k ≡ Some script → is_ready script one.player

-- a player played the script of this place, and told its gate
abbrev pub HasPlayedAt : {S P O G : Type 0} → (Course → S → O → Type 0) → (P → O) → (G → List Moment) → List S → ℕ → GatedPlayer P G
    → GatedPlayer P G → Type 0
HasPlayedAt {S} fits outcome told scripts k old new = (script : S) → slice_get scripts k ≡ Some script
    → PlayedOnce fits (told old.gate) (told new.gate) script old.one.pass new.one.pass (outcome new.one.player)

-- each player may play the script of its place
abbrev pub CanPlay : {S P G : Type 0} → (Sizes → S → Type 0) → (S → ℕ) → (S → P → Type 0) → Pooled → List S → List (GatedPlayer P G)
    → Type 0
CanPlay {P = P} {G = G} suits most_calls is_ready pool scripts players = (k : ℕ) (d : GatedPlayer P G) → k < length players
    → CanPlayAt suits most_calls is_ready pool scripts k (slice_index_or players k d).one

-- each player played the script of its place
abbrev pub HavePlayed : {S P O G : Type 0} → (Course → S → O → Type 0) → (P → O) → (G → List Moment) → List S → List (GatedPlayer P G)
    → List (GatedPlayer P G) → Type 0
HavePlayed {P = P} {G = G} fits outcome told scripts before after = (k : ℕ) (d : GatedPlayer P G) → k < length before
    → HasPlayedAt fits outcome told scripts k (slice_index_or before k d) (slice_index_or after k d)
