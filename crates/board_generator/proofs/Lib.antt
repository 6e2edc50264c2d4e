mod Pushed
mod Connected
