-- What the second word says of a command line.
use Rattle.std.proofs.Common.{◌≡◌, ◌∙◌, ◌-◌, ◌<◌, ℕ, List, [], ◌∷◌, Bool, true, false, cond, Option, Some, None, Result, Ok, Err, String}
use Rattle.std.proofs.Common.{Global, drop, take, map, length, string_bytes, slice_index_or, refl, sym, ap, subst}
use Rattle.std.specs.Prelude.{IsOkAnd, MatchResult, codes, option_map, slice_get}
use Rattle.std.specs.Str.{bytes_eq}
use Rattle.std.proofs.lemmas.List.{drop-map, take_rest}
use Rattle.std.proofs.lemmas.Option.{slice_get-map, slice_get_read}
use Rattle.std.proofs.lemmas.Slice.Eq.{bytes_eq-Decides}
use Rattle.command_words.specs.Meant.{HasFewCalls, command_meant, meant}
use Rattle.command_words.specs.Drill.{drill_meant}
use Rattle.command_words.specs.Play.{play_meant}
use Rattle.command_words.specs.Reads.{Reads}
use Rattle.command_words.specs.Store.{store_meant}
use Rattle.command_words.specs.declared.command.Command.{Command}
use Rattle.command_words.specs.declared.command.Command.TheVariants.{Drill, Play, Store}
use Rattle.command_words.specs.declared.fault.WordsFault.{WordsFault}
use Rattle.command_words.proofs.Drills.{few_calls}

-- without a second word nothing is meant
pub meant-no_name : (words : List (List ℕ)) → slice_get words 1 ≡ None → meant words ≡ None
unfolding meant
meant-no_name [] none = refl
meant-no_name (program ∷ []) none = refl
meant-no_name (program ∷ name ∷ rest) none = cc

-- with one, what the words from it on ask of the command of that name
meant-named : (words : List (List ℕ)) (name : List ℕ) → slice_get words 1 ≡ Some name → meant words ≡ command_meant name (drop 1 words)
unfolding meant
meant-named [] name some = cc
meant-named (program ∷ []) name some = cc
meant-named (program ∷ second ∷ rest) name some = let same : second ≡ name = cc in rw same refl

-- the same of words that own their bytes, the second of which is this
pub means : (words : List (String Global)) (word : String Global) → 1 < length words → word ≡ slice_index_or words 1 word
    → meant (map string_bytes words) ≡ command_meant (string_bytes word) (map string_bytes (take (length words - 1) (drop 1 words)))
means words word within is =
    let second : slice_get (map string_bytes words) 1 ≡ Some (string_bytes word) =
    slice_get-map string_bytes words 1 ∙ ap (option_map string_bytes) (slice_get_read words (length words) 1 word refl within is) in
    let words_after : drop 1 (map string_bytes words) ≡ map string_bytes (take (length words - 1) (drop 1 words)) =
    drop-map string_bytes 1 words ∙ sym (ap (map string_bytes) (take_rest words 1)) in
    meant-named (map string_bytes words) (string_bytes word) second ∙ ap (command_meant (string_bytes word)) words_after

-- a name that isn't this one is not equal to it
is_other : (name known : List ℕ) → ¬ (name ≡ known) → bytes_eq name known ≡ false
is_other name known other = go (bytes_eq name known) refl
  where
    go : (b : Bool) → bytes_eq name known ≡ b → bytes_eq name known ≡ false
    go true is = absurd (other ((bytes_eq-Decides name known).0 is))
    go false is = is

-- where no command has that name, nothing is meant
pub no_command : (name : List ℕ) (words : List (List ℕ)) → ¬ (name ≡ codes "play") → ¬ (name ≡ codes "drill")
    → ¬ (name ≡ codes "store") → command_meant name words ≡ None
no_command name words no_play no_drill no_store =
    rw (is_other name (codes "play") no_play, is_other name (codes "drill") no_drill, is_other name (codes "store") no_store) refl

-- what is read of one command is read as a command
pub reads_as : {Asked : Type 0} (named : Asked → Command) (meaning : Option Asked) (answer : Result Asked WordsFault)
    (whole : Result Command WordsFault) → Reads meaning answer
    → MatchResult answer (λ asked. IsOkAnd whole (λ command. command ≡ named asked)) (λ fault. whole ≡ Err fault)
    → Reads (option_map named meaning) whole
reads_as named meaning (Ok asked) (Ok command) read is = ap (option_map named) read ∙ ap Some (sym is)
reads_as named meaning (Ok asked) (Err _) read is = absurd is
reads_as named meaning (Err _) whole read is = rw is (λ faulty. ap (option_map named) (read faulty))

-- what holds of all that one command may be asked for holds where it is meant
holds_as : {Asked : Type 0} (named : Asked → Command) (Holds : Command → Type 0) (meaning : Option Asked)
    → ((asked : Asked) → meaning ≡ Some asked → Holds (named asked))
    → (command : Command) → option_map named meaning ≡ Some command → Holds command
holds_as named Holds None holds command is = cc
holds_as named Holds (Some asked) holds command is = let same : named asked ≡ command = cc in subst Holds same (holds asked refl)

-- few calls of a drill are meant
pub few_are_meant : (words : List (List ℕ)) (command : Command) → meant words ≡ Some command → HasFewCalls command
unfolding meant
few_are_meant [] command is = cc
few_are_meant (program ∷ []) command is = cc
few_are_meant (program ∷ name ∷ rest) command is =
    go (bytes_eq name (codes "play")) (bytes_eq name (codes "drill")) (bytes_eq name (codes "store")) is
  where
    words : List (List ℕ)
    words = name ∷ rest

    go : (play drill store : Bool)
        → cond play (option_map Play (play_meant words)) (cond drill (option_map Drill (drill_meant words))
        (cond store (option_map Store (store_meant words)) None)) ≡ Some command
        → HasFewCalls command
    go true drill store is = holds_as Play HasFewCalls (play_meant words) (λ _ _. tt) command is
    go false true store is = holds_as Drill HasFewCalls (drill_meant words) (few_calls words) command is
    go false false true is = holds_as Store HasFewCalls (store_meant words) (λ _ _. tt) command is
    go false false false is = cc
