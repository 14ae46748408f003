-- What a script writer keeps along the walk: the script, and its live addresses as the walk's pairs.
use Rattle.std.specs.Prelude.{◌≡◌, ℕ}
use Rattle.std.specs.Ordering.{nat_cmp}
use Rattle.std.specs.BTreeMap.{get}
use Rattle.mtrace_reader.specs.Script.{Walk, named}
use Rattle.mtrace_reader.specs.declared.walk.ScriptWriter.{ScriptWriter}

-- a writer has a walk's script, and at each address what the walk's pairs name there
pub record IsAt (writer : ScriptWriter) (walk : Walk) : Type 0 where
  pub same_script : writer.script ≡ walk.script
  pub same_names : (address : ℕ) → get nat_cmp writer.live address ≡ named walk address

-- a writer goes along with every walk that makes this step
abbrev pub Carries : ScriptWriter → ScriptWriter → (Walk → Walk) → Type 0
Carries old new step = (walk : Walk) → IsAt old walk → IsAt new (step walk)
