use Rattle.jsp_retry.proofs.over.run_over.Given as goal

abbrev pub ghosts-run_in_eras-A-Ledger : goal.ghosts-run_in_eras-A-Ledger
ghosts-run_in_eras-A-Ledger a = record { name = a.asks.name; parts = a.asks.parts }

abbrev pub ghosts-run_in_eras-O-Ledger : goal.ghosts-run_in_eras-O-Ledger
ghosts-run_in_eras-O-Ledger a = record { name = a.outs.name; parts = a.outs.parts }
