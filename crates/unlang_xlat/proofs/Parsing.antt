-- What is said of a whole text, from its parts.
use Rattle.std.proofs.Common.{◌≡◌, ℕ, List, length, None, Ok, refl}
use Rattle.rad_dict.specs.Definitions.{Definitions}
use Rattle.rad_text.specs.declared.read.ReadError.{ReadError}
use Rattle.rad_text.specs.declared.read.ReadError.TheVariants as errors
use Rattle.rad_text.specs.Read.{Fails}
use Rattle.rad_text.specs.Answers.{IsFault}
use Rattle.unlang_xlat.specs.declared.fault.Wrong.{Wrong}
use Rattle.unlang_xlat.specs.declared.fault.Wrong.TheVariants.{BadExpansion, UnknownAttr, UnknownFunction}
use Rattle.unlang_xlat.specs.declared.part.Part.{Part}
use Rattle.unlang_xlat.specs.Reading.{braced, parts_in}
use Rattle.unlang_xlat.specs.Faults.{fault_at, parsed, says}

pub said_parts : (text : List ℕ) (dict : Definitions) (parts : List Part) (rest : List ℕ) → parts_in (braced dict 32) None (length text) text ≡ Ok (parts, rest) → parsed text dict ≡ Ok parts
unfolding parsed
said_parts text dict parts rest e = rw e refl

pub said_fault : (text : List ℕ) (dict : Definitions) (error : ReadError Wrong) → Fails error (parts_in (braced dict 32) None (length text) text) → IsFault says (parsed text dict) (fault_at text error)
unfolding parsed
said_fault text dict errors.NoMemory e = tt
said_fault text dict (errors.Wrong (BadExpansion left)) e = rw e refl
said_fault text dict (errors.Wrong (UnknownAttr left)) e = rw e refl
said_fault text dict (errors.Wrong (UnknownFunction left)) e = rw e refl
