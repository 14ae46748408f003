-- What a parse of a simple command says of its words.
use Rattle.std.proofs.Common.{◌≡◌, ◌∙◌, inl, inr, ℕ, true, List, [], ◌∷◌, Option, Some, None, Result, Ok, Err, refl, map, sym, ap, subst}
use Rattle.std.specs.Prelude.{IfOk, IsErrAnd, option_and_then, option_map}
use Rattle.std.specs.Borrow.{Bor}
use Rattle.clap.specs.Kinds.{HasKind, IsAmong, Kinds}
use Rattle.clap.specs.Matches.{first_value, matched_of, raw_values}
use Rattle.clap.specs.Simple.{App, app_of, app_of_fields, matches_of}
use Rattle.clap.specs.Faults.{fault_of}
use Rattle.clap.specs.Values.{kind_of}
use Rattle.clap.specs.Walk.{Row, all_of, rows_of}
use Rattle.clap.specs.declared.builder.command.Command.{Command}
use Rattle.clap.specs.declared.builder.command.Command.TheViews.{out-Command}
use Rattle.clap.specs.declared.error.Error.{Error}
use Rattle.clap.specs.declared.error.kind.ErrorKind.TheVariants.{OutOfMemory}
use Rattle.clap.specs.declared.parser.matches.Found.{Found}
use Rattle.clap.proofs.WalkLemmas.{first_value-rows, raw_values-rows}
use Rattle.command_words.specs.Number.{number_of}
use Rattle.command_words.specs.Options.{IsMatchedBy, IsRefused, asked_of, if_faultless, number_at, without_help}
use Rattle.command_words.specs.Reads.{Reads}
use Rattle.command_words.specs.declared.fault.WordsFault.{WordsFault}
use Rattle.command_words.specs.declared.fault.WordsFault.TheVariants.{Faulty}

-- taking the help flag from a command
pub app_of-without_help : (old new : Command) → out-Command new ≡ record (out-Command old) { disable_help_flag = true }
    → app_of new ≡ without_help (app_of old)
app_of-without_help old new is = ap app_of_fields is

-- the values that the matches have for an id
pub all_of-values : (found : Found) (id : List ℕ) (values : Option (Bor (List (Bor (List ℕ)))))
    → option_map (λ s. map (λ v. v.now) s.now) values ≡ option_map raw_values (matched_of found id)
    → option_map (λ s. map (λ v. v.now) s.now) values ≡ all_of id (rows_of found)
all_of-values found id values is = is ∙ raw_values-rows found id

-- the text that the matches have for an option, if any, is what its number is read from
pub number_at-text : (bits : ℕ) (found : Found) (name : List ℕ) (text : Option (Bor (List ℕ)))
    → option_map (λ t. t.now) text ≡ first_value found name
    → option_and_then (λ t. number_of bits t.now) text ≡ number_at bits name (rows_of found)
number_at-text bits found name text is = number_in text ∙ ap (option_and_then (number_of bits)) (is ∙ first_value-rows found name)
  where
    number_in : (t : Option (Bor (List ℕ)))
        → option_and_then (λ u. number_of bits u.now) t ≡ option_and_then (number_of bits) (option_map (λ u. u.now) t)
    number_in None = refl
    number_in (Some u) = refl

module _ {Asked : Type 0} (asked : List Row → Option Asked) (app a : App) (words : List (List ℕ)) (is : a ≡ app) where
  -- words that match ask for what their matches ask for
  pub asked_of-matched : (matches : List Row) → IsMatchedBy a words matches → asked_of app asked words ≡ asked matches
  asked_of-matched matches matched =
      subst (λ (b : App). asked_of b asked words ≡ asked matches) is (rw matched.faultless (ap asked (sym matched.matched)))

  -- words that have a fault ask for nothing
  pub asked_of-refused : IsRefused a words → asked_of app asked words ≡ None
  asked_of-refused refused = subst (λ (b : App). asked_of b asked words ≡ None) is (go (fault_of a words) refl)
    where
      go : (kinds : Kinds) → fault_of a words ≡ kinds → if_faultless kinds (asked (matches_of a words)) ≡ None
      go [] none = absurd (refused none)
      go (kind ∷ kinds) some = refl

-- where `clap` fails, and not for want of memory, there is a fault
pub has_fault : (kinds : Kinds) (error : Error) → HasKind kinds error → ¬ (kind_of error ≡ OutOfMemory) → ¬ (kinds ≡ [])
has_fault kinds error (inl out) memory none = memory out
has_fault kinds error (inr among) memory none = subst (IsAmong (kind_of error)) none among

-- a fault that is handed on is read as it was before
pub handed_on : {Asked : Type 0} (meaning : Option Asked) (answer : Result Asked WordsFault) (first : WordsFault)
    → IsErrAnd answer (λ fault. fault ≡ first) → (first ≡ Faulty → meaning ≡ None) → Reads meaning answer
handed_on meaning (Ok asked) first same none = absurd same
handed_on meaning (Err last) first same none = λ is. none (sym same ∙ is)

-- what holds of all that is meant holds of what is read
pub read_ok : {Asked : Type 0} (meaning : Option Asked) (Holds : Asked → Type 0) (answer : Result Asked WordsFault)
    → ((asked : Asked) → meaning ≡ Some asked → Holds asked) → Reads meaning answer → IfOk answer Holds
read_ok meaning Holds (Ok asked) holds read = holds asked read
read_ok meaning Holds (Err _) holds read = tt
