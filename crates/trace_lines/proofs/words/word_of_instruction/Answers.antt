use Rattle.std.proofs.Common.{◌∙◌, true, false}
use Rattle.flat_machine.specs.Sizes.{bytes_of}
use Rattle.trace_lines.proofs.Turns.{amo_word, load_word, local_word, store_word, turn_word}
use Rattle.trace_lines.proofs.words.word_of_instruction.Goals as goal

pub returns-in-Load : goal.returns-in-Load
returns-in-Load c = λ s code p words same.
    let i = c.args.insn.now in
    let registers = c.args.registers.now in
    let a = c.in-Load in
    turn_word s code p i registers c.word_at.result same
    (load_word s p.pc registers i a.op a.rd a.rs1 a.imm (bytes_of c.load_size.result) c.address.result a.is c.load_size.ensures c.address.ensures
    ∙ c.word_at.ensures s false words)

pub returns-in-Store : goal.returns-in-Store
returns-in-Store c = λ s code p words same.
    let i = c.args.insn.now in
    let registers = c.args.registers.now in
    let a = c.in-Store in
    turn_word s code p i registers c.word_at-in-Store.result same
    (store_word s p.pc registers i a.op a.rs1 a.rs2 a.imm
    (bytes_of c.store_size.result) c.address-in-Store.result a.is c.store_size.ensures c.address-in-Store.ensures
    ∙ c.word_at-in-Store.ensures s true words)

pub returns-in-Amo : goal.returns-in-Amo
returns-in-Amo c = λ s code p words same.
    let i = c.args.insn.now in
    let registers = c.args.registers.now in
    let a = c.in-Amo in
    turn_word s code p i registers c.word_at-in-Amo.result same
    (amo_word s p.pc registers i a.op a.rd a.rs1 a.rs2 a.aq a.rl c.read.result a.is c.read.ensures ∙ c.word_at-in-Amo.ensures s true words)

pub returns-in_default : goal.returns-in_default
returns-in_default c = λ s code p words same.
    let i = c.args.insn.now in
    let registers = c.args.registers.now in
    turn_word s code p i registers _ same (local_word s p.pc registers i c.in_default.not-Load c.in_default.not-Store c.in_default.not-Amo)
