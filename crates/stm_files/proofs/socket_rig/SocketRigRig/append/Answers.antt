use Rattle.std.proofs.Common.{rules, ◌≡◌, List, [], ◌∷◌, ◌++◌, length, take, ℕ, Result, Ok, Err, Some, inl, ◌∙◌, ap, sym}
use Rattle.std.proofs.Math.Seq.{take-length}
use Rattle.stm_wire.specs.declared.fault.RigFault.{RigFault}
use Rattle.stm_wire.proofs.Names.{Append, Call, RecordsAppend}
use Rattle.stm_files.proofs.socket_rig.SocketRigRig.append.Goals as goal

whole : (bytes : List ℕ) (past new : List Call) → new ≡ past ++ Append bytes ∷ [] → new ≡ past ++ Append (take (length bytes) bytes) ∷ []
whole bytes past new is = is ∙ ap (λ these. past ++ Append these ∷ []) (sym (take-length bytes))

recorded : {T : Type 0} (bytes : List ℕ) (result : Result T RigFault) (past new : List Call) → new ≡ past ++ Append bytes ∷ [] → RecordsAppend bytes result (Some past) (Some new)
recorded bytes (Ok x) past new is = ap Some is
recorded bytes (Err e) past new is = inl (length bytes, ap Some (whole bytes past new is))

pub returns-clause-recorded : goal.returns-clause-recorded
returns-clause-recorded g c =
    recorded c.args.bytes.now c.count_journal.result c.args.self.now.past.calls c.count_journal.new.self.past.calls (search rules)

pub returns-clause-entered : goal.returns-clause-entered
returns-clause-entered g c room =
    (length c.args.bytes.now, ap Some (whole c.args.bytes.now c.args.self.now.past.calls c.count_journal.new.self.past.calls (search rules)))
