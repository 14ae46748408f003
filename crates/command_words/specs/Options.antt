-- The options of a command, and what its words match, as `clap` reads one simple command.
use Rattle.std.specs.Prelude.{◌≡◌, ℕ, List, [], ◌∷◌, Option, Some, None, codes, true, fold, map, option_and_then}
use Rattle.std.specs.Borrow.{Bor}
use Rattle.clap.specs.Simple.{on_top}
use Rattle.clap.specs.Words.{App, Kinds, Row, Rule, fault_of, first_of, is_simple, is_simple_and_free, matches_of}
use Rattle.clap.specs.Words.{new_app, new_rule, with_rule}
use Rattle.clap.specs.declared.builder.action.ArgAction.TheVariants.{Append, Set}
use Rattle.command_words.specs.Number.{number_of}

-- an option `--NAME V` or `--NAME=V`, and what it is where it isn't given
abbrev pub option_rule : List ℕ → List ℕ → Rule
option_rule name default = record (new_rule name) { long = Some name; action = Some Set; defaults = default ∷ [] }

-- the words that are no options: file names, one at least
abbrev pub files_rule : Rule
files_rule = record (new_rule (codes "files")) { action = Some Append; required = true }

-- a command without the flags that ask for help
abbrev pub without_help : App → App
without_help = on_top (λ command. record command { disable_help_flag = true })

-- a command with these options and files, in this order
abbrev pub command_of : List ℕ → List Rule → App
command_of name rules = fold with_rule (without_help (new_app name)) rules

-- a command with these options, each a name and what it is where it isn't given
abbrev pub with_options : List ℕ → List (Bor (List ℕ) × Bor (List ℕ)) → App
with_options name options = command_of name (map (λ option. option_rule option.0.now option.1.now) options)

-- the same command, which takes files too
abbrev pub with_files : App → App
with_files app = with_rule app files_rule

-- the number of at most so many bits that the matches have for an option
abbrev pub number_at : ℕ → List ℕ → List Row → Option ℕ
number_at bits name matches = option_and_then (number_of bits) (first_of name matches)

-- the meaning, where no kind of fault was found
abbrev pub if_faultless : {Asked : Type 0} → Kinds → Option Asked → Option Asked
if_faultless [] meaning = meaning
if_faultless (kind ∷ kinds) meaning = None

-- what words ask of a command, by what they match; none where `clap` finds a fault in them
abbrev pub asked_of : {Asked : Type 0} → App → (List Row → Option Asked) → List (List ℕ) → Option Asked
asked_of app asked words = if_faultless (fault_of app words) (asked (matches_of app words))

-- `clap` says of any words what they match of the command, and which faults they have
pub record IsReadable (app : App) : Type 0 where
  pub matches : is_simple app ≡ true
  pub faults : is_simple_and_free app ≡ true

-- the words have no fault, and match this of the command
pub record IsMatchedBy (app : App) (words : List (List ℕ)) (matches : List Row) : Type 0 where
  pub faultless : fault_of app words ≡ []
  pub matched : matches ≡ matches_of app words

-- the words have a fault
abbrev pub IsRefused : App → List (List ℕ) → Type 0
IsRefused app words = ¬ (fault_of app words ≡ [])
