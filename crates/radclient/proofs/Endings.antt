-- How runs end.
use Rattle.std.proofs.Common.{◌≡◌, ℕ, List, [], Err, sym, subst}
use Rattle.radclient.specs.declared.asked.Asked.{Asked}
use Rattle.radclient.specs.declared.fault.LineFault.{LineFault}
use Rattle.radclient.specs.declared.status.Status.{Status}
use Rattle.radclient.specs.declared.status.Status.TheVariants as status
use Rattle.radclient.specs.declared.stop.Unmade.{Unmade}
use Rattle.radclient.specs.Answers.{Act, Finished, NotMade, ended}
use Rattle.radclient.specs.Groups.{groups_of}
use Rattle.radclient.specs.Program.{Bad, Good, Hungry, IsVerdict, Misread, Ran, Refuses, Starved, Tail, Unsendable, fault_line, unmade_line}
use Rattle.radclient.specs.Seen.{Seen, Goes, IsCutOff}

pub unmade_ran : (act : Act) (file : List ℕ) (why : Unmade) (before mid now : Seen) (answer : Status) → Goes act (ended (NotMade why)) before mid
    → Refuses (unmade_line file why) mid now answer → Ran act file before now answer
unmade_ran act file why before mid now status.Done goes says = absurd says
unmade_ran act file why before mid now status.Unanswered goes says = absurd says
unmade_ran act file why before mid now status.Refused goes says = Unsendable why mid goes says
unmade_ran act file why before mid now status.ReadFault goes says = absurd says
unmade_ran act file why before mid now status.SocketFault goes says = absurd says
unmade_ran act file why before mid now status.WriteFault goes says = absurd says
unmade_ran act file why before mid now status.NoMemory goes says =
    Starved (subst (λ (s : Seen). IsCutOff act before s) (sym says) (record { rest = ended (NotMade why); unwritten = []; reaches = goes }))

pub verdict_ran : (act : Act) (file : List ℕ) (before now : Seen) (bad : ℕ) (answer : Status) → IsVerdict bad answer → Goes act (ended (Finished bad)) before now
    → Ran act file before now answer
verdict_ran act file before now bad status.Done is goes = Good (subst (λ (n : ℕ). Goes act (ended (Finished n)) before now) is goes)
verdict_ran act file before now bad status.Unanswered is goes = Bad bad is goes
verdict_ran act file before now bad status.Refused is goes = absurd is
verdict_ran act file before now bad status.ReadFault is goes = absurd is
verdict_ran act file before now bad status.SocketFault is goes = absurd is
verdict_ran act file before now bad status.WriteFault is goes = absurd is
verdict_ran act file before now bad status.NoMemory is goes = absurd is

pub refused_tail : (asked : Asked) (file octets : List ℕ) (fault : LineFault) (before now : Seen) (answer : Status) → groups_of octets ≡ Err fault
    → Refuses (fault_line file fault) before now answer → Tail asked file octets before now answer
refused_tail asked file octets fault before now status.Done is says = absurd says
refused_tail asked file octets fault before now status.Unanswered is says = absurd says
refused_tail asked file octets fault before now status.Refused is says = Misread fault is says
refused_tail asked file octets fault before now status.ReadFault is says = absurd says
refused_tail asked file octets fault before now status.SocketFault is says = absurd says
refused_tail asked file octets fault before now status.WriteFault is says = absurd says
refused_tail asked file octets fault before now status.NoMemory is says = Hungry says
