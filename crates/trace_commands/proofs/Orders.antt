-- The lines of the serial order of a run, from machines that open on its image.
use Rattle.std.proofs.Common.{◌≡◌, ℕ, ◌^◌, ◌<◌, List, sym, ap, ap₂, ◌∙◌, subst}
use Rattle.std.specs.Prelude.{slice_index_or}
use Rattle.std.proofs.Math.ListN.{get_or-map}
use Rattle.flat_machine.specs.declared.config.Config.{Config}
use Rattle.flat_machine.specs.declared.poke.Entry.{Entry}
use Rattle.flat_machine.specs.Flat.{flat_run}
use Rattle.flat_machine.specs.State.{FlatState, Processor}
use Rattle.elf_image.specs.Images.{ImageContents}
use Rattle.elf_image.specs.Openings.{opening as flat_opening}
use Rattle.steps.specs.declared.step.Step.{Step}
use Rattle.machine_steps.specs.machine_ports.Ports.{PortState}
use Rattle.machine_steps.specs.machine_theory.Processors.{no_port, no_processor}
use Rattle.machine_steps.specs.Machines.{MachineLists}
use Rattle.machine_steps.specs.Runs.{IsOpening, flat_state, passed}
use Rattle.machine_steps.specs.Standing.{HasFaulted, IsFaulted, processor_of}
use Rattle.trace_lines.specs.declared.choice.Choice.{Choice}
use Rattle.trace_lines.specs.OrderLines.{lines_of}
use Rattle.run_reports.specs.Reports.{HasFlatFaulted, IsExitOf, flat_processor}
use Rattle.trace_commands.specs.Explained.{IsDrainedWithSteps}
use Rattle.trace_commands.specs.Orders.{AreOrderLines, order_of}

-- ---- faults

module _ (c : Config) (m : MachineLists) (F : FlatState) (size : m.config ≡ c) (is : flat_state m ≡ F) where
  processor_is : (p : ℕ) → processor_of m p ≡ flat_processor F p
  processor_is p =
      sym (get_or-map (λ (q : PortState). q.core.state) m.ports p no_port) ∙ ap (λ (G : FlatState). slice_index_or G.processors p no_processor) is

  pub flat_faulted : HasFlatFaulted c F → HasFaulted m
  flat_faulted (p, within, fault) =
      (p, subst (λ (d : Config). p < 2 ^ d.k) (sym size) within, subst (λ (q : Processor). IsFaulted q.status) (sym (processor_is p)) fault)

  pub faulted_flat : HasFaulted m → HasFlatFaulted c F
  faulted_flat (p, within, fault) =
      (p, subst (λ (d : Config). p < 2 ^ d.k) size within, subst (λ (q : Processor). IsFaulted q.status) (processor_is p) fault)

-- ---- orders

-- The first machine has opened on the image, and the other is the flat machine after the entries.
module _ (c : Config) (image : ImageContents) (steps all : List Step) (home : IsDrainedWithSteps c image steps all) (entries : List Entry)
    (first m : MachineLists)
    (opens : IsOpening c image first) (order : (opening : MachineLists) → IsOpening c image opening → entries ≡ (passed opening all).order)
    (size : m.config ≡ first.config) (after : flat_state m ≡ flat_run (flat_state first) entries) where
  abbrev F : FlatState
  F = flat_run (flat_opening c image.layout) (order_of home.run)

  is_order : entries ≡ order_of home.run
  is_order = order home.run.opening home.run.opens

  after_is : flat_state m ≡ F
  after_is = after ∙ ap₂ flat_run opens.flat is_order

  size_is : m.config ≡ c
  size_is = size ∙ opens.config

  -- The chosen lines of the entries, and the exit status of the machine after them, are those of the serial order.
  pub are_lines : (choice : Choice) (text : List ℕ) (status : ℕ) → text ≡ lines_of choice (flat_state first) entries → IsExitOf m status →
      AreOrderLines choice c image steps text status
  are_lines choice text status is exit = record {
    all = all;
    home = home;
    flat = record {
      are = is ∙ ap₂ (lines_of choice) opens.flat is_order;
      faulted = λ f. exit.faulted (flat_faulted c m F size_is after_is f);
      sound = λ none. exit.sound (λ f. none (faulted_flat c m F size_is after_is f));
    };
  }
