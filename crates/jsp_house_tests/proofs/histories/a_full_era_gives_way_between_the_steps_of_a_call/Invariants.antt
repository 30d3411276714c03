use Rattle.jsp_house_tests.proofs.histories.a_full_era_gives_way_between_the_steps_of_a_call.Given as goal

abbrev pub ghosts-end_leases_in_eras_of_five-A-Ledger : goal.ghosts-end_leases_in_eras_of_five-A-Ledger
ghosts-end_leases_in_eras_of_five-A-Ledger g a = record { name = a.asks.name; parts = a.asks.parts }

abbrev pub ghosts-end_leases_in_eras_of_five-O-Ledger : goal.ghosts-end_leases_in_eras_of_five-O-Ledger
ghosts-end_leases_in_eras_of_five-O-Ledger g a = record { name = a.outs.name; parts = a.outs.parts }
