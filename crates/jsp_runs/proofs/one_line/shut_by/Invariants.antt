use Rattle.jsp_runs.proofs.one_line.shut_by.Given as goal

abbrev pub ghosts-shut_early-A-Ledger : goal.ghosts-shut_early-A-Ledger
ghosts-shut_early-A-Ledger g a = record { name = a.asks.name; parts = a.asks.parts }

abbrev pub ghosts-shut_early-O-Ledger : goal.ghosts-shut_early-O-Ledger
ghosts-shut_early-O-Ledger g a = record { name = a.outs.name; parts = a.outs.parts }
