use Rattle.jsp_floor.proofs.threads.run_house.Given as goal

abbrev pub ghosts-run_in-A-Ledger : goal.ghosts-run_in-A-Ledger
ghosts-run_in-A-Ledger g a = record { name = a.asks.name; parts = a.asks.parts }

abbrev pub ghosts-run_in-O-Ledger : goal.ghosts-run_in-O-Ledger
ghosts-run_in-O-Ledger g a = record { name = a.outs.name; parts = a.outs.parts }
