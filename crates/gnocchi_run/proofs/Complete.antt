-- Scripts that are answered to their end.
use Rattle.std.proofs.Common.{◌≡◌, ◌≢◌, inl, inr, ap, ◌∙◌, ◌⊎◌}
use Rattle.command_line.specs.declared.status.Status.{Status}
use Rattle.command_line.specs.declared.status.Status.TheVariants.{Done, Input}
use Rattle.front.specs.declared.fault.StoreFault.{StoreFault}
use Rattle.front.specs.declared.fault.StoreFault.TheVariants as store_fault
use Rattle.rest_script.specs.declared.script_end.ScriptEnd.{ScriptEnd}
use Rattle.rest_script.specs.declared.script_end.ScriptEnd.TheVariants as scripts
use Rattle.gnocchi_run.specs.Ending.{IsOrStarved, IsUnfaulted, status_of_script, status_of_store}

pub done_or_starved : (end : ScriptEnd) (status : Status) → status ≡ status_of_script end → IsUnfaulted status
    → (end ≢ scripts.ReadFault → end ≢ scripts.WriteFault → end ≢ scripts.Memory → end ≡ scripts.Ended) → IsOrStarved status Done
done_or_starved scripts.Ended status is un law = inl is
done_or_starved scripts.TooLong status is un law = let e = law (λ e. cc) (λ e. cc) (λ e. cc) in absurd (cc e)
done_or_starved scripts.Cut status is un law = let e = law (λ e. cc) (λ e. cc) (λ e. cc) in absurd (cc e)
done_or_starved scripts.TooMuch status is un law = let e = law (λ e. cc) (λ e. cc) (λ e. cc) in absurd (cc e)
done_or_starved scripts.ReadFault status is un law = absurd (un.read is)
done_or_starved scripts.WriteFault status is un law = absurd (un.write is)
done_or_starved scripts.Memory status is un law = inr is

refused_end : (end : ScriptEnd) (status : Status) → status ≡ status_of_script end → (end ≡ scripts.TooLong) ⊎ (end ≡ scripts.Cut) → IsOrStarved status Input
refused_end end status is (inl e) = inl (is ∙ ap status_of_script e)
refused_end end status is (inr e) = inl (is ∙ ap status_of_script e)

pub refused_or_starved : (end : ScriptEnd) (status : Status) → status ≡ status_of_script end → IsUnfaulted status
    → (end ≢ scripts.ReadFault → end ≢ scripts.WriteFault → end ≢ scripts.Memory → (end ≡ scripts.TooLong) ⊎ (end ≡ scripts.Cut)) → IsOrStarved status Input
refused_or_starved scripts.Ended status is un law = refused_end scripts.Ended status is (law (λ e. cc) (λ e. cc) (λ e. cc))
refused_or_starved scripts.TooLong status is un law = inl is
refused_or_starved scripts.Cut status is un law = inl is
refused_or_starved scripts.TooMuch status is un law = refused_end scripts.TooMuch status is (law (λ e. cc) (λ e. cc) (λ e. cc))
refused_or_starved scripts.ReadFault status is un law = absurd (un.read is)
refused_or_starved scripts.WriteFault status is un law = absurd (un.write is)
refused_or_starved scripts.Memory status is un law = inr is

-- no store was opened, and no fault is told: there was no memory
pub starved_store : (fault : StoreFault) (status wanted : Status) → status ≡ status_of_store fault → IsUnfaulted status → IsOrStarved status wanted
starved_store store_fault.Exists status wanted is un = absurd (un.exists is)
starved_store (store_fault.DiskFault f) status wanted is un = absurd (un.disk is)
starved_store (store_fault.Damaged d) status wanted is un = absurd (un.damage d.disk d.at is)
starved_store store_fault.Memory status wanted is un = inr is
