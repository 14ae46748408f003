-- What is known of the outside before a run, and after it.
use Rattle.std.specs.Prelude.{◌≡◌, ℕ, ◌+◌, ◌≤◌, List, Option, length}
use Rattle.pool_io.specs.declared.files.Files as files_trait
use Rattle.pool_io.specs.declared.sink.Sink as sink_trait

-- the files: the bytes of a name where they are told, how many were opened, how many calls failed, and whether none will fail
-- whose name is told; the output: what it holds where it tells it, how many calls failed, and how many bytes it is sure to take
pub record Outside : Type 1 where
  pub told : List ℕ → Option (List ℕ)
  pub opens : ℕ
  pub file_faults : ℕ
  pub reliable : Type 0
  pub out : Option (List ℕ)
  pub out_faults : ℕ
  pub takes : ℕ → Type 0

-- what these files and this output are known for
abbrev pub outside : {F S K : Type 0} → files_trait.Ghosts F S → F → sink_trait.Ghosts K → K → Outside
outside of_files files of_sink out = record {
  told = of_files.told files;
  opens = of_files.opens files;
  file_faults = of_files.faults files;
  reliable = of_files.reliable files;
  out = of_sink.written out;
  out_faults = of_sink.faults out;
  takes = of_sink.takes out;
}

-- nothing was written to the output
abbrev pub IsUnwritten : Outside → Outside → Type 0
IsUnwritten before after = after.out ≡ before.out

-- so many files were opened
abbrev pub HasOpened : Outside → Outside → ℕ → Type 0
HasOpened before after count = after.opens ≡ before.opens + count

-- no file was opened, and nothing was written to the output
abbrev pub IsUntouched : Outside → Outside → Type 0
IsUntouched before after = HasOpened before after 0 × IsUnwritten before after

-- the output is sure to take all of a text
pub record TakesText (before : Outside) (text : List ℕ) : Type 0 where
  pub room : ℕ
  pub takes : before.takes room
  pub fits : length text ≤ room
