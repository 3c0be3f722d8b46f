use Rattle.std.proofs.Common.{◌∙◌, ◌^◌, sym, ap, subst}
use Rattle.machine_steps.specs.Parts.{opening_modules}
use Rattle.flat_machine.specs.Laws.{AreBelow}
use Rattle.local_memory.specs.Accesses.{region_of_bytes}
use Rattle.elf_image.specs.Images.{ImageContents, IsPlaced}
use Rattle.machine_steps.specs.Machines.{MachineLists, IsMachine}
use Rattle.machine_steps.specs.Openings.{IsOpening}
use Rattle.machine_steps.proofs.Opening.{new_is_machine, new_opens}
use Rattle.machine_steps.proofs.machine.open_machine.Goals as goal

pub new_ports-requires-clause-placed : goal.new_ports-requires-clause-placed
new_ports-requires-clause-placed c = subst (IsPlaced c.layout-layout.result.now) c.requires.words c.layout-layout.ensures.placed

pub invariant_of-result : goal.invariant_of-result
invariant_of-result c =
    let layout = c.layout-layout.result.now in
    let placed = subst (IsPlaced layout) c.requires.words c.layout-layout.ensures.placed in
    let code = c.in_ok-code.ensures.ok ∙ c.in_ok-new.ensures ∙ ap region_of_bytes c.as_slice-code_bytes.ensures in
    let ports = c.in_ok-ports.ensures in
    let modules = c.in_ok-modules.ensures ∙ ap (λ bytes. opening_modules c.args.config bytes (2 ^ c.args.config.k)) c.as_slice-shared.ensures in
    let is = new_is_machine c.args.config layout c.requires.limits placed c.in_ok-network.network c.in_ok-network.ensures.empty c.args.image
    c.in_ok-network.ensures.sizes
    (subst (AreBelow 256) c.as_slice-code_bytes.ensures c.bytes_are_below_256.ensures)
    (subst (AreBelow 256) c.as_slice-local.ensures c.bytes_are_below_256-2.ensures)
    (subst (AreBelow 256) c.as_slice-shared.ensures c.bytes_are_below_256-3.ensures) in
    subst IsMachine (λ i. record {
      config = c.args.config;
      image = c.args.image;
      network = c.in_ok-network.network;
      ports = sym ports i;
      modules = sym modules i;
      code = sym code i;
    }) is

pub returns : goal.returns
returns c =
    let layout = c.layout-layout.result.now in
    let placed = subst (IsPlaced layout) c.requires.words c.layout-layout.ensures.placed in
    let code = c.in_ok-code.ensures.ok ∙ c.in_ok-new.ensures ∙ ap region_of_bytes c.as_slice-code_bytes.ensures in
    let ports = c.in_ok-ports.ensures in
    let modules = c.in_ok-modules.ensures ∙ ap (λ bytes. opening_modules c.args.config bytes (2 ^ c.args.config.k)) c.as_slice-shared.ensures in
    let same = c.layout-layout.ensures.layout in
    let words = c.requires.words in
    subst (λ (m : ImageContents × MachineLists). IsOpening c.args.config m.0 m.1)
    (λ i. (
      record { layout = same i; shared_words = sym words i },
      record {
        config = c.args.config;
        image = record { layout = same i; shared_words = sym words i };
        network = c.in_ok-network.network;
        ports = sym ports i;
        modules = sym modules i;
        code =
            sym code i;
      },
    ))
    (new_opens c.args.config layout c.requires.limits placed c.in_ok-network.network c.in_ok-network.ensures.empty)
