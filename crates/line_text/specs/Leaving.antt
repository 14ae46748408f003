-- What a reading leaves of the files that its source is of.
use Rattle.std.specs.Prelude.{◌≡◌, ◌≢◌, ◌≤◌, Result, Err}
use Rattle.pool_io.specs.declared.files.Files.{Ghosts}
use Rattle.pool_io.specs.Counts.{HasRisen}
use Rattle.line_text.specs.declared.fault.TextFault.{TextFault}
use Rattle.line_text.specs.declared.fault.TextFault.TheVariants.{ReadFault}

-- the files after a reading that answers this: each name keeps its bytes, nothing was opened, and the count of faults rose where a read
-- failed, which is the answer, and nowhere else; reliable files stay so, and no read of them failed
pub record LeavesFiles {F S T : Type 0} (of : Ghosts F S) (before after : F) (result : Result T TextFault) : Type 0 where
  pub names : of.told after ≡ of.told before
  pub opens : of.opens after ≡ of.opens before
  pub never_falls : of.faults before ≤ of.faults after
  pub failed : result ≡ Err ReadFault → HasRisen (of.faults before) (of.faults after)
  pub no_fault : result ≢ Err ReadFault → of.faults after ≡ of.faults before
  pub reliable : of.reliable before → of.reliable after
  pub sure : of.reliable before → result ≢ Err ReadFault
