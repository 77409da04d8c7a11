use Rattle.rad_wire.proofs.VendorParts.{parts_read, parts_only}
use Rattle.rad_wire.proofs.laws.vendor_parts_have_one_reading.Goals as goal

pub returns-clause-read : goal.returns-clause-read
returns-clause-read c = parts_read

pub returns-clause-only : goal.returns-clause-only
returns-clause-only c = parts_only
